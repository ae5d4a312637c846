-- Demand 3 of what analysing hands back, as one statement: where it answers, the answer and the list are those of which the
-- promises hold.
-- Assumes nothing.
use Rattle.std.specs.Prelude.{ℕ, ◌*◌, ◌≡◌, Bool, List, ◌++◌, length, drop}
use Rattle.model.specs.Analysing.{analysed}
use Rattle.model.specs.File.{recording_of}
use Rattle.model.specs.Passes.{passes_made, is_settled}
use Rattle.model.specs.Pairs.{listed, entry_numbers}
use Rattle.model.specs.Promise.{Promise}
use Rattle.analysis.specs.Lent.{Analysed}

-- of the file f with the budget b: passes made, settled and pairs as answered, and the list as it was and as it is left
pub record Handed (f : List ℕ) (b m : ℕ) (s : Bool) (n : ℕ) (l l' : List ℕ) : Type 0 where
  pub passes : m ≡ passes_made (recording_of f) b
  pub settled : s ≡ is_settled (recording_of f) b
  pub pairs : n ≡ length (listed (recording_of f) b)
  pub entries : l' ≡ entry_numbers (listed (recording_of f) b) ++ drop (3 * n) l
  pub promise : Promise (recording_of f) b

-- the statement, proved as `handed` in proofs/Handed.antt
abbrev pub HandedBack : Type 0
HandedBack =
    (f : List ℕ) (b : ℕ) (w l : List ℕ) (m : ℕ) (s : Bool) (n : ℕ) (w' l' : List ℕ)
    → Analysed f b w l (analysed m s n) w' l' → Handed f b m s n l l'
