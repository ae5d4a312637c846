-- Pairs in task order (document 02, No. 2): what is listed where task order and file order differ. Proved as `in_task_order` in
-- proofs/Starred.antt. Assumes nothing.
use Rattle.std.specs.Prelude.{ℕ, ◌≡◌, List, [], ◌∷◌, ◌++◌}
use Rattle.model.specs.Recording.{tasks}
use Rattle.model.specs.File.{recording_of}
use Rattle.model.specs.Pairs.{entry_numbers, task_order}
use Rattle.model.specs.SamePairs.{listed_by_file}
use Rattle.model.specs.Rows.Starred.{of, W, R, S, P, file, G, Lists}

-- five writes by three tasks
abbrev pub mixed : List ℕ
mixed = file 3 0 1 (W 2 ++ W 1 ++ W 0 ++ W 2 ++ W 1)

-- the events of a file in task order are these
abbrev pub Orders : List ℕ → List ℕ → Type 0
Orders f l = task_order (recording_of f).events (tasks (recording_of f)) ≡ l

-- the list as document 01 had it
abbrev pub ListedByFile : List ℕ → ℕ → List ℕ → Type 0
ListedByFile f budget l = entry_numbers (listed_by_file (recording_of f) budget) ≡ l

pub record InTaskOrder : Type 0 where
  pub g_order : Orders G (0 ∷ 1 ∷ 3 ∷ 4 ∷ 5 ∷ 2 ∷ [])
  pub mixed_order : Orders mixed (2 ∷ 1 ∷ 4 ∷ 0 ∷ 3 ∷ [])
  -- the event of the lower task first, wherever it is recorded, the order kept by the recorded run or not
  pub recorded_first : Lists (file 2 0 1 (W 0 ++ W 1)) 1 (0 ∷ 1 ∷ 1 ∷ [])
  pub recorded_last : Lists (file 2 0 1 (W 1 ++ W 0)) 1 (1 ∷ 0 ∷ 1 ∷ [])
  pub open_last : Lists (file 2 1 1 (W 1 ++ S 1 ++ P 0 ++ R 0)) 0 (3 ∷ 0 ∷ 0 ∷ [])
  -- by cell, lower task, its position, higher task, its position
  pub by_cell : Lists (file 2 0 3 (of 6 0 2 ++ of 6 1 2 ++ W 1 ++ W 0)) 1 (3 ∷ 2 ∷ 1 ∷ 0 ∷ 1 ∷ 1 ∷ [])
  pub by_task : Lists (file 3 0 1 (W 2 ++ W 1 ++ W 0)) 1 (2 ∷ 1 ∷ 1 ∷ 2 ∷ 0 ∷ 1 ∷ 1 ∷ 0 ∷ 1 ∷ [])
  pub by_position : Lists (file 2 0 1 (W 1 ++ W 0 ++ W 1 ++ W 0)) 1 (1 ∷ 0 ∷ 1 ∷ 1 ∷ 2 ∷ 1 ∷ 3 ∷ 0 ∷ 1 ∷ 3 ∷ 2 ∷ 1 ∷ [])
  pub by_all : Lists mixed 1
      (2 ∷ 1 ∷ 1 ∷ 2 ∷ 4 ∷ 1 ∷ 2 ∷ 0 ∷ 1 ∷ 2 ∷ 3 ∷ 1 ∷ 1 ∷ 0 ∷ 1 ∷ 1 ∷ 3 ∷ 1 ∷ 4 ∷ 0 ∷ 1 ∷ 4 ∷ 3 ∷ 1 ∷ [])
  -- document 01's list, by cell, then lower, then higher event: the same pairs and marks
  pub g_by_file : ListedByFile G 0 (0 ∷ 2 ∷ 0 ∷ 2 ∷ 3 ∷ 1 ∷ 2 ∷ 5 ∷ 0 ∷ [])
  pub mixed_by_file : ListedByFile mixed 1
      (0 ∷ 1 ∷ 1 ∷ 0 ∷ 2 ∷ 1 ∷ 0 ∷ 4 ∷ 1 ∷ 1 ∷ 2 ∷ 1 ∷ 1 ∷ 3 ∷ 1 ∷ 2 ∷ 3 ∷ 1 ∷ 2 ∷ 4 ∷ 1 ∷ 3 ∷ 4 ∷ 1 ∷ [])
