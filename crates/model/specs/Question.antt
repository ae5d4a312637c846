-- A question about two events (document 01, Two events, writing, printing).
-- Assumes nothing.
use Rattle.std.specs.Prelude.{ℕ, Bool, not, ◌&&◌, cond, List, ltb, eqb, Result, Ok, Err}
use Rattle.model.specs.declared.Refusal.{Refusal}
use Rattle.model.specs.Refusals.{Check, unless, and_then, after}
use Rattle.model.specs.declared.Relation.{Relation}
use Rattle.model.specs.Recording.{Recording, size}
use Rattle.model.specs.File.{recording_of}
use Rattle.model.specs.Reading.{file_check}
use Rattle.model.specs.Vectors.{Vectors, ordered, unordered}
use Rattle.model.specs.Passes.{safe_vectors}
use Rattle.model.specs.Recorded.{recorded}
use Rattle.model.specs.Analysing.{work_fits, filled}

-- 1 a first, 2 b first, 3 open, 4 sure
abbrev pub relation_number : Relation → ℕ
relation_number Relation.First = 1
relation_number Relation.Second = 2
relation_number Relation.Open = 3
relation_number Relation.Sure = 4

-- how a and b stand to each other by the safe vectors X and the recorded vectors R: read like the list, but for any two events
abbrev pub relation_by : Recording → Vectors → Vectors → ℕ → ℕ → Relation
relation_by E X R a b =
    cond (ordered E.events X a b) Relation.First
    (cond (ordered E.events X b a) Relation.Second (cond (unordered E.events R a b) Relation.Sure Relation.Open))

-- the same with a budget
unfoldable pub relation_of : Recording → ℕ → ℕ → ℕ → Relation
relation_of E a b budget = relation_by E (safe_vectors E budget) (recorded E) a b

-- two different events of the file
abbrev pub two_events : Recording → ℕ → ℕ → Bool
two_events E a b = ltb a (size E) && ltb b (size E) && not (eqb a b)

-- 11, then 9
unfoldable pub asked_check : Recording → ℕ → ℕ → List ℕ → Check
asked_check E a b work =
    unless (two_events E a b) Refusal.Event λ _.
    unless (work_fits E work) Refusal.Work λ _.
    Ok tt

-- the file's refusal, then these
unfoldable pub question_check : List ℕ → ℕ → ℕ → List ℕ → Check
question_check f a b work = and_then (file_check f) λ _. asked_check (recording_of f) a b work

abbrev pub answer_by : Recording → ℕ → ℕ → ℕ → Check → Result Relation Refusal
answer_by E a b budget (Ok tt) = Ok (relation_of E a b budget)
answer_by E a b budget (Err r) = Err r

-- what the question answers
unfoldable pub answer_of : List ℕ → ℕ → ℕ → ℕ → List ℕ → Result Relation Refusal
answer_of f a b budget work = answer_by (recording_of f) a b budget (question_check f a b work)

-- the work memory after the question: filled as after analysing
unfoldable pub work_after_asking : List ℕ → ℕ → ℕ → ℕ → List ℕ → List ℕ
work_after_asking f a b budget work = after (question_check f a b work) (λ _. filled (recording_of f) budget work) work
