-- What analysing a file and a question about two of its events answer and leave in the lent memory.
-- Assumes nothing.
use Rattle.std.specs.Prelude.{ℕ, ◌≡◌, List, Result}
use Rattle.model.specs.declared.Refusal.{Refusal}
use Rattle.model.specs.declared.Relation.{Relation}
use Rattle.model.specs.declared.Analysis.{Analysis}
use Rattle.model.specs.Analysing.{analysis_of, work_after_analysing, list_after_analysing}
use Rattle.model.specs.Question.{answer_of, work_after_asking}

-- analysing the file f with the budget b answers a, and leaves w' in the work numbers w and l' in the list l
pub record Analysed (f : List ℕ) (b : ℕ) (w l : List ℕ) (a : Result Analysis Refusal) (w' l' : List ℕ) : Type 0 where
  pub answer : a ≡ analysis_of f b w l
  pub work : w' ≡ work_after_analysing f b w
  pub list : l' ≡ list_after_analysing f b w l

-- a question about the events x and y of the file f answers a, and leaves w' in the work numbers w
pub record Asked (f : List ℕ) (x y b : ℕ) (w : List ℕ) (a : Result Relation Refusal) (w' : List ℕ) : Type 0 where
  pub answer : a ≡ answer_of f x y b w
  pub work : w' ≡ work_after_asking f x y b w
