-- What the functions of this crate are lent, and what the call answers and leaves in the lent memory.
-- Assumes nothing.
use Rattle.std.specs.Prelude.{ℕ, ◌≡◌, Bool, true, false, not, List, ◌++◌, length, drop, Result}
use Rattle.model.specs.declared.Refusal.{Refusal}
use Rattle.model.specs.declared.Counts.{Counts}
use Rattle.model.specs.Numbers.{picked}
use Rattle.model.specs.Refusals.{after}
use Rattle.model.specs.File.{events_of}
use Rattle.model.specs.Vectors.{Vectors, at_or_before}
use Rattle.model.specs.Writing.{file_in, file_length, written_by}
use Rattle.model.specs.Reversed.{bring_forward, forward_check, reversed_of, work_after_reversing, out_after_reversing}
use Rattle.passes.specs.declared.lent.EventVectors.{EventVectors}
use Rattle.passes.specs.Lent.{vectors_in}

-- the vectors v put event a at or before x, or else they do not
abbrev pub on_side : List ℕ → Counts → List ℕ → ℕ → Bool → ℕ → Bool
on_side s c v x true a = at_or_before (events_of s) (vectors_in s c v) a x
on_side s c v x false a = not (at_or_before (events_of s) (vectors_in s c v) a x)

-- the events for which they do, or else the others, in file order
abbrev pub side_of : List ℕ → Counts → List ℕ → ℕ → Bool → List ℕ
side_of s c v x first = picked (on_side s c v x first) (length (events_of s))

-- the same by the vectors that are lent with their events
abbrev pub on_side_by : EventVectors → ℕ → Bool → ℕ → Bool
on_side_by p x first a = on_side p.records.now p.counts p.numbers.now x first a

abbrev pub side_by : EventVectors → ℕ → Bool → List ℕ
side_by p x first = side_of p.records.now p.counts p.numbers.now x first

-- what writing the records with x brought forward by the vectors X answers, and what it leaves in the output
abbrev pub forward_of : List ℕ → List ℕ → Vectors → ℕ → ℕ → List ℕ → Result ℕ Refusal
forward_of s b X x y out = written_by (file_length s b) (forward_check (events_of s) X x y (file_length s b) out)

abbrev pub forward_out : List ℕ → Counts → List ℕ → Vectors → ℕ → ℕ → List ℕ → List ℕ
forward_out s c b X x y out =
    after (forward_check (events_of s) X x y (file_length s b) out) (λ _. file_in s (bring_forward (events_of s) X x) c b ++ drop (file_length s b) out) out

-- the call on the events x and y of the file f answers a, and leaves w' in the work numbers w and o' in the output o
pub record Reversed (f : List ℕ) (x y : ℕ) (w o : List ℕ) (a : Result ℕ Refusal) (w' o' : List ℕ) : Type 0 where
  pub answer : a ≡ reversed_of f x y w o
  pub work : w' ≡ work_after_reversing f x y w
  pub out : o' ≡ out_after_reversing f x y w o
