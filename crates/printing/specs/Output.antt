-- A text put at a place of a lent output. What does not fit is left off, and what the text does not reach is kept.
-- Assumes nothing.
use Rattle.std.specs.Prelude.{ℕ, ◌+◌, ◌≤◌, min, ◌≡◌, List, length}
use Rattle.std.proofs.lemmas.List.Edits.{sets}

-- putting the text at a place of an output turns old into new, and the next place is next
pub record Put (old new : List ℕ) (at : ℕ) (text : List ℕ) (next : ℕ) : Type 0 where
  pub bytes : new ≡ sets old at text
  pub place : next ≡ min (at + length text) (length old)
  pub within : next ≤ length new
