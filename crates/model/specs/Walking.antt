-- A step of a walk over the records (document 01, The recording file).
-- Assumes nothing.
use Rattle.std.specs.Prelude.{ℕ, ◌+◌, ◌/◌, cond, List, ltb, length, Some, None}
use Rattle.model.specs.declared.Step.{Step}
use Rattle.model.specs.File.{event_at}

-- record n of the part and then n + 1; at or past its whole records the end, and n unchanged
unfoldable pub step_at : List ℕ → ℕ → Step
step_at s n = cond (ltb n (length s / 4)) (record { item = Some (event_at s n); next = n + 1 }) (record { item = None; next = n })
