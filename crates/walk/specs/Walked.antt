-- A whole walk (document 01, The recording file), as one statement: it yields each record once, in order, then the end.
-- Assumes nothing.
use Rattle.std.specs.Prelude.{ℕ, zero, suc, ◌/◌, ◌≤◌, ◌<◌, ◌≡◌, List, length, Some, None, Err}
use Rattle.model.specs.declared.Refusal.{Refusal}
use Rattle.model.specs.Recording.{event_in}
use Rattle.model.specs.File.{events_of}
use Rattle.model.specs.Reading.{reading_of, records_of}
use Rattle.model.specs.Walking.{step_at}

-- the number of the next record after k steps from record 0
unfoldable pub after : List ℕ → ℕ → ℕ
after s zero = 0
after s (suc k) = (step_at s (after s k)).next

-- proved as `walked` in proofs/Walked.antt
pub record Walked : Type 0 where
  -- step k of a walk over the records' part s yields record k
  pub yields : (s : List ℕ) (k : ℕ) → k < length s / 4 → (step_at s (after s k)).item ≡ Some (event_in (events_of s) k)
  -- and after it record k + 1 is next
  pub goes_on : (s : List ℕ) (k : ℕ) → k ≤ length s / 4 → after s k ≡ k
  -- at or past the whole records a step yields the end, and the number stays
  pub ends : (s : List ℕ) (n : ℕ) → length s / 4 ≤ n → step_at s n ≡ record { item = None; next = n }
  -- over a refused file every step does
  pub refused : (f : List ℕ) (r : Refusal) → reading_of f ≡ Err r → (n : ℕ) → step_at (records_of f) n ≡ record { item = None; next = n }
