-- The step of the recorded run, as a function from vectors to vectors.
-- Assumes nothing.
use Rattle.std.specs.Prelude.{ℕ, set}
use Rattle.model.specs.Recording.{Recording}
use Rattle.model.specs.Vectors.{Vectors}
use Rattle.model.specs.Passes.{gathered}
use Rattle.model.specs.Recorded.{causes}

-- the recorded vector of e
unfoldable pub recorded_event : Recording → Vectors → ℕ → Vectors
recorded_event E X e = set X e (gathered E X (causes E.levels E.events e) e)
