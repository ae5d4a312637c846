-- What is promised of a question about two different events, of every file that reading accepts and of every budget: its
-- answer is read like the list, and what it says of the two holds of the admissible orders.
-- Assumes nothing.
use Rattle.std.specs.Prelude.{ℕ, ◌<◌, ◌≡◌, true, List, ◌↔◌, Ok}
use Rattle.model.specs.declared.Trailer.{Trailer}
use Rattle.model.specs.declared.Relation.{Relation}
use Rattle.model.specs.Recording.{Recording, size, event}
use Rattle.model.specs.File.{recording_of}
use Rattle.model.specs.Reading.{reading_of}
use Rattle.model.specs.Orders.{Always, Sometimes}
use Rattle.model.specs.Pairs.{conflict, OnList}
use Rattle.model.specs.Question.{relation_of}

pub record QuestionPromise (E : Recording) (a b budget : ℕ) : Type 0 where
  -- of a conflicting pair the answer is sure exactly when the pair is on the list with mark 1
  pub sure_listed : conflict (event E a) (event E b) ≡ true → (relation_of E a b budget ≡ Relation.Sure) ↔ OnList E a b budget 1
  -- and open exactly when it is there with mark 0
  pub open_listed : conflict (event E a) (event E b) ≡ true → (relation_of E a b budget ≡ Relation.Open) ↔ OnList E a b budget 0
  -- first: a comes first in every admissible order
  pub first : relation_of E a b budget ≡ Relation.First → Always E a b
  -- second: b does
  pub second : relation_of E a b budget ≡ Relation.Second → Always E b a
  -- sure: a comes first in some admissible order, and b in another
  pub sure : relation_of E a b budget ≡ Relation.Sure → Sometimes E a b × Sometimes E b a

-- the statement, proved as `question_promise` in proofs/Questions.antt
abbrev pub QuestionPromised : Type 0
QuestionPromised =
    (f : List ℕ) (h : Trailer) → reading_of f ≡ Ok h
    → (a b : ℕ) → a < size (recording_of f) → b < size (recording_of f) → ¬ (a ≡ b) → (budget : ℕ) → QuestionPromise (recording_of f) a b budget
