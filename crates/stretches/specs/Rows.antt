-- Stretches (document 02, No. 9): answers of each number on recordings of documents 01 and 02, each way in which two are no stretches,
-- which refusal is answered where two apply, and what is left in the work memory.
-- Proved as `stretched` in proofs/Rows.antt. Assumes nothing.
use Rattle.std.specs.Prelude.{ℕ, ◌≡◌, List, ◌++◌, Ok}
use Rattle.model.specs.Analysing.{work_after_analysing}
use Rattle.model.specs.Rows.Starred.{W, R, Fork, Join, file, A, D, E, G, I, work, RefusedAs, RefusedAlone}
use Rattle.model.specs.Rows.Table.{lent}
use Rattle.model.specs.Rows.Lent.{A_start, A_raised}
use Rattle.stretches.specs.declared.Stretch.{Stretch}
use Rattle.stretches.specs.declared.Lead.{Lead}
use Rattle.stretches.specs.Stretches.{lead_number, compared_of, work_after_comparing}

-- the positions i to j of task t
abbrev pub from : ℕ → ℕ → ℕ → Stretch
from t i j = record { task = t; first = i; last = j }

-- the answer for r and s with budget b has this number
abbrev pub Leads : List ℕ → Stretch → Stretch → ℕ → ℕ → Type 0
Leads f r s b n = (x : Lead) × (compared_of f r s b work ≡ Ok x) × (lead_number x ≡ n)

-- the call is refused by 17
abbrev pub NoStretches : List ℕ → Stretch → Stretch → Type 0
NoStretches f r s = RefusedAlone (compared_of f r s 37 work) 17

-- with m work numbers the call is refused by this number at this record
abbrev pub Refused : List ℕ → Stretch → Stretch → ℕ → ℕ → ℕ → Type 0
Refused f r s m number e = RefusedAs (compared_of f r s 37 (lent m)) number e 0

-- task 0 forks task 1, which writes and reads, and joins it
abbrev pub inner : List ℕ
inner = file 3 0 1 (W 0 ++ Fork 0 1 ++ W 1 ++ R 1 ++ Join 0 1 ++ R 0)

pub record Stretched : Type 0 where
  -- stretches of two tasks, either way round
  pub first : Leads G (from 0 1 2) (from 1 1 1) 37 1
  pub second : Leads G (from 1 1 1) (from 0 1 2) 37 2
  pub joined : Leads G (from 1 1 1) (from 0 4 5) 37 1
  pub joined_turned : Leads G (from 0 4 5) (from 1 1 1) 37 2
  -- the last event of the one is not before the other; the first of the other is not behind it; both
  pub last_free : Leads G (from 0 2 3) (from 1 1 1) 37 3
  pub first_free : Leads G (from 0 3 4) (from 1 1 1) 37 3
  pub around : Leads G (from 0 1 5) (from 1 1 1) 37 3
  -- of more events on both sides
  pub before_inner : Leads inner (from 0 1 2) (from 1 1 2) 37 1
  pub behind_inner : Leads inner (from 0 3 4) (from 1 1 2) 37 2
  pub around_inner : Leads inner (from 0 2 3) (from 1 1 2) 37 3
  -- by waits: one of one signal, two of two, one of two
  pub waited : Leads A (from 0 1 2) (from 1 1 2) 17 1
  pub waited_twice : Leads D (from 0 1 2) (from 2 2 3) 37 1
  pub waited_once : Leads E (from 0 1 2) (from 3 1 2) 37 3
  -- as far as the budget goes
  pub no_pass : Leads A (from 0 1 2) (from 1 1 2) 0 3
  pub one_pass : Leads A (from 0 1 2) (from 1 1 2) 1 1
  -- stretches of one task go by position, before the first pass too
  pub own_task : Leads G (from 0 1 2) (from 0 3 5) 0 1
  pub own_task_turned : Leads G (from 0 3 5) (from 0 1 2) 0 2
  pub own_task_apart : Leads G (from 0 1 1) (from 0 5 5) 0 1
  -- 17: a task that is unknown or has no events, first 0, first above last, last above the task's events, of either
  pub task : NoStretches G (from 2 1 1) (from 0 1 1)
  pub task_other : NoStretches G (from 0 1 1) (from 2 1 1)
  pub no_event : NoStretches inner (from 0 1 1) (from 2 1 1)
  pub first_0 : NoStretches G (from 0 0 1) (from 1 1 1)
  pub first_0_other : NoStretches G (from 0 1 1) (from 1 0 1)
  pub position_0 : NoStretches G (from 0 0 0) (from 1 1 1)
  pub first_above : NoStretches G (from 0 3 2) (from 1 1 1)
  pub first_above_other : NoStretches G (from 1 1 1) (from 0 3 2)
  pub last_above : NoStretches G (from 0 5 6) (from 1 1 1)
  pub last_above_other : NoStretches G (from 0 1 1) (from 1 1 2)
  -- one task and a common position: one, from either side, all, those of a stretch within another
  pub overlap : NoStretches G (from 0 1 3) (from 0 3 4)
  pub overlap_turned : NoStretches G (from 0 3 4) (from 0 1 3)
  pub overlap_same : NoStretches G (from 0 2 3) (from 0 2 3)
  pub overlap_in : NoStretches G (from 0 1 5) (from 0 3 3)
  pub overlap_around : NoStretches G (from 0 3 3) (from 0 1 5)
  -- 9, and where two apply: the file, 17, 9
  pub work_short : Refused A (from 0 1 2) (from 1 1 2) 15 9 0
  pub file_before_stretch : Refused I (from 2 1 1) (from 2 1 1) 0 7 0
  pub stretch_before_work : Refused A (from 0 1 2) (from 0 2 2) 15 17 0
  -- what is left in the work memory: as after analysing, whatever the answer
  pub work_left : work_after_comparing A (from 0 1 2) (from 1 1 2) 1 (lent 17) ≡ A_raised ++ A_raised ++ lent 1
  pub work_neither : work_after_comparing A (from 0 1 2) (from 1 1 2) 0 (lent 17) ≡ A_start ++ A_raised ++ lent 1
  pub work_analysed : work_after_comparing inner (from 0 3 4) (from 1 1 2) 37 (lent 37) ≡ work_after_analysing inner 37 (lent 37)
  -- a refusal leaves it
  pub work_file : work_after_comparing I (from 0 1 1) (from 1 1 1) 0 (lent 4) ≡ lent 4
  pub work_stretch : work_after_comparing A (from 0 1 2) (from 0 2 2) 0 (lent 17) ≡ lent 17
  pub work_kept : work_after_comparing A (from 0 1 2) (from 1 1 2) 0 (lent 15) ≡ lent 15
