-- What calls on concrete files tell, so that no place of `told` is left free.
-- Each row computes the whole way from a file's bytes. Proved as `calls` in proofs/Calls.antt. Assumes nothing.
use Rattle.std.specs.Prelude.{ℕ, ◌≡◌, List, [], ◌∷◌, ◌++◌, replicate}
use Rattle.model.specs.Reading.{reading_of}
use Rattle.model.specs.Analysing.{analysis_of}
use Rattle.model.specs.Report.{laid}
use Rattle.model.specs.Rows.Starred.{of, W, file, G}
use Rattle.model.specs.Rows.Table.{lent}
use Rattle.fennrolka.specs.Looking.{looked_of}
use Rattle.fennrolka.specs.Told.{code_of, told_of_reading, told_of_looked, told_of_analysis}

-- edition 3, start 1, 2 events, 5 tasks, 4 semaphores, 6 flags, 7 cells: task 1 posts to flag 5, task 4 writes cell 3
abbrev pub mixed : List ℕ
mixed = 0 ∷ (of 7 1 5 ++ of 6 4 3 ++ replicate 10 1 ++ (1 ∷ 0 ∷ 0 ∷ 0 ∷ 2 ∷ 0 ∷ 0 ∷ 0 ∷ 5 ∷ 0 ∷ 4 ∷ 6 ∷ 7 ∷ 0 ∷ 3 ∷ 0 ∷ []))

-- record 1 has no kind of edition 1
abbrev pub faulty : List ℕ
faulty = file 1 1 1 (W 0 ++ of 7 0 0)

-- code and numbers of each call
abbrev pub Reads : List ℕ → ℕ → List ℕ → Type 0
Reads f code told = (code_of (reading_of f) ≡ code) × (told_of_reading (reading_of f) ≡ told)

abbrev pub Finds : List ℕ → ℕ → ℕ → List ℕ → Type 0
Finds f e code told = (code_of (looked_of f e) ≡ code) × (told_of_looked (looked_of f e) ≡ told)

-- analysing the printed file, with this budget, and work numbers and a list of these lengths
abbrev pub Analyses : ℕ → ℕ → ℕ → ℕ → List ℕ → Type 0
Analyses b w l code told = (code_of (analysis_of G b (lent w) (lent l)) ≡ code) × (told_of_analysis (analysis_of G b (lent w) (lent l)) ≡ told)

pub record Calls : Type 0 where
  pub read : Reads mixed 0 (3 ∷ 1 ∷ 2 ∷ 5 ∷ 4 ∷ 6 ∷ 7 ∷ 0 ∷ [])
  pub read_refused : Reads faulty 5 (0 ∷ 0 ∷ 0 ∷ 0 ∷ 0 ∷ 0 ∷ 0 ∷ 1 ∷ [])
  pub event : Finds mixed 1 0 (4 ∷ 6 ∷ 3 ∷ 0 ∷ [])
  pub no_event : Finds mixed 2 11 (0 ∷ 0 ∷ 0 ∷ 0 ∷ [])
  pub event_refused : Finds faulty 0 5 (0 ∷ 0 ∷ 0 ∷ 1 ∷ [])
  pub settled : Analyses 5 24 3 0 (2 ∷ 1 ∷ 1 ∷ 0 ∷ [])
  pub not_settled : Analyses 0 24 9 0 (0 ∷ 0 ∷ 3 ∷ 0 ∷ [])
  pub no_work : Analyses 5 23 3 9 (0 ∷ 0 ∷ 0 ∷ 0 ∷ [])
  pub no_list : Analyses 0 24 8 10 (0 ∷ 0 ∷ 3 ∷ 0 ∷ [])
  -- with less room than there are numbers, and with more
  pub cut : laid (told_of_reading (reading_of mixed)) (lent 3) ≡ 3 ∷ 1 ∷ 2 ∷ []
  pub whole : laid (told_of_reading (reading_of mixed)) (lent 9) ≡ 3 ∷ 1 ∷ 2 ∷ 5 ∷ 4 ∷ 6 ∷ 7 ∷ 0 ∷ 9 ∷ []
