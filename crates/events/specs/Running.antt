-- The running counts of one look over the records: how many of those passed are each task's.
-- Assumes nothing.
use Rattle.std.specs.Prelude.{ℕ, ◌+◌, ◌<◌, ◌≡◌, List, length, get_or, set}
use Rattle.model.specs.Numbers.{tally}
use Rattle.model.specs.Recording.{of_task, event_in}
use Rattle.model.specs.File.{events_of}

-- one more at a place
abbrev pub more : List ℕ → ℕ → List ℕ
more l i = set l i (get_or l i 0 + 1)

-- the running state after the first n events: `own` counts them by task, a byte
pub record Running (s : List ℕ) (n : ℕ) (own : List ℕ) : Type 0 where
  pub wide : length own ≡ 256
  pub owned : (t : ℕ) → t < 256 → get_or own t 0 ≡ tally (λ a. of_task t (event_in (events_of s) a)) n
