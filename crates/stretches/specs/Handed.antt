-- What comparing hands back, as one statement: where it answers, the answer is the one of which the promise holds, and the work
-- numbers are left as after analysing.
-- Assumes nothing.
use Rattle.std.specs.Prelude.{ℕ, ◌≡◌, List, Ok}
use Rattle.model.specs.File.{recording_of}
use Rattle.model.specs.Analysing.{work_after_analysing}
use Rattle.stretches.specs.declared.Stretch.{Stretch}
use Rattle.stretches.specs.declared.Lead.{Lead}
use Rattle.stretches.specs.Stretches.{lead_of}
use Rattle.stretches.specs.AllEvents.{StretchPromise}
use Rattle.stretches.specs.Lent.{ComparedAs}

-- of the stretches r and s of the file f with the budget b: the answer, and the work numbers as they were and as they are left
pub record Handed (f : List ℕ) (r s : Stretch) (b : ℕ) (x : Lead) (w w' : List ℕ) : Type 0 where
  pub answer : x ≡ lead_of (recording_of f) r s b
  pub promise : StretchPromise (recording_of f) r s b
  pub work : w' ≡ work_after_analysing f b w

-- the statement, proved as `handed` in proofs/Handed.antt
abbrev pub HandedBack : Type 0
HandedBack =
    (f : List ℕ) (r s : Stretch) (b : ℕ) (x : Lead) (w w' : List ℕ) → ComparedAs f r s b w (Ok x) w' → Handed f r s b x w w'
