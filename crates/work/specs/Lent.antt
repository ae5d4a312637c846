-- What the functions of this crate are lent, where in the work numbers the vectors stand, and the budget of a whole run.
-- Assumes nothing.
use Rattle.std.specs.Prelude.{ℕ, ◌+◌, ◌*◌, ◌/◌, ◌≤◌, cond, List, [], leb, length, take, drop}
use Rattle.model.specs.declared.Counts.{Counts}
use Rattle.model.specs.Recording.{Recording}
use Rattle.model.specs.File.{events_of, recording_by}
use Rattle.model.specs.Vectors.{Vectors}
use Rattle.passes.specs.Lent.{vectors_in, Records}
use Rattle.model.specs.Reading.{most_tasks, most_cells, most_events}

-- what analysing needs of the records and counts of a file, as acceptance gives it
pub record Ready (s : List ℕ) (c : Counts) : Type 0 where
  pub records : Records s c
  pub tasks : c.tasks ≤ most_tasks
  pub cells : c.cells ≤ most_cells

-- N × T, how many numbers the vectors of these records have
abbrev pub numbers : List ℕ → Counts → ℕ
numbers s c = length (events_of s) * c.tasks

-- there is room for both vectors
abbrev pub Roomy : List ℕ → Counts → List ℕ → Type 0
Roomy s c work = 2 * numbers s c ≤ length work

-- the safe vectors, first in the work numbers, and the recorded ones behind them
abbrev pub safe_in : List ℕ → Counts → List ℕ → Vectors
safe_in s c work = vectors_in s c (take (numbers s c) work)

abbrev pub recorded_in : List ℕ → Counts → List ℕ → Vectors
recorded_in s c work = vectors_in s c (take (numbers s c) (drop (numbers s c) work))

-- a definition over a recording, its safe and its recorded vectors, at the records and work numbers that are lent; it reads no levels
abbrev pub in_work : {A : Type 0} → (Recording → Vectors → Vectors → A) → List ℕ → Counts → List ℕ → A
in_work f s c work = f (recording_by s c []) (safe_in s c work) (recorded_in s c work)

-- N × N + 1, where N is in its range
unfoldable pub budget_in : List ℕ → ℕ
budget_in s = cond (leb (length s / 4) most_events) (length s / 4 * (length s / 4) + 1) 0
