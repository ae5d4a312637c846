-- The refusals of reading (document 01, What an acceptable recording obeys and Refusal table): each rule broken in a small file,
-- and of two faults which one is answered. Proved as `faults` in proofs/Rows.antt. Assumes nothing.
use Rattle.std.specs.Prelude.{ℕ, List, [], ◌∷◌, ◌++◌}
use Rattle.model.specs.Rows.Starred.{of, W, R, S, P, Fork, Join, file, Accepts, Refuses}

-- a trailer of numbers below 256: start, N, tasks, semaphores, cells, edition
abbrev pub trailer : ℕ → ℕ → ℕ → ℕ → ℕ → ℕ → List ℕ
trailer start n t s c edition = start ∷ 0 ∷ 0 ∷ 0 ∷ n ∷ 0 ∷ 0 ∷ 0 ∷ t ∷ 0 ∷ s ∷ 0 ∷ c ∷ 0 ∷ edition ∷ 0 ∷ []

pub record Faults : Type 0 where
  -- 1 to 4, then the first faulty record by 5 to 8
  pub edition_before_extent : Refuses (trailer 4 0 0 0 0 4) 2 0
  pub extent_before_count : Refuses (trailer 4 0 0 0 0 1) 3 0
  pub count_before_records : Refuses (of 7 0 0 ++ trailer 0 1 0 0 0 1) 4 0
  pub first_record : Refuses (file 1 1 0 (P 0 ++ of 7 0 0)) 8 0
  pub kind_before_name : Refuses (file 1 0 0 (of 7 1 0)) 5 0
  pub name_before_life : Refuses (file 1 0 0 (Join 0 1)) 6 0
  pub life_before_empty : Refuses (file 2 1 0 (Fork 0 1 ++ Join 0 1 ++ P 1)) 7 2
  -- kinds are 1 to 6 in edition 1
  pub kind_0 : Refuses (file 1 1 1 (W 0 ++ of 0 0 0)) 5 1
  pub kind_7 : Refuses (file 1 1 1 (W 0 ++ of 7 0 0)) 5 1
  -- a task and each kind's object are below their counts: here 3 tasks, 1 semaphore, 2 cells
  pub names : Accepts (file 3 1 2 (S 0 ++ P 0 ++ Fork 0 2 ++ Join 0 2 ++ of 5 1 1 ++ of 6 1 1))
  pub task_3 : Refuses (file 3 1 2 (W 3)) 6 0
  pub signal_1 : Refuses (file 3 1 2 (of 1 0 1)) 6 0
  pub wait_1 : Refuses (file 3 1 2 (of 2 0 1)) 6 0
  pub fork_3 : Refuses (file 3 1 2 (Fork 0 3)) 6 0
  pub join_3 : Refuses (file 3 1 2 (Join 0 3)) 6 0
  pub read_2 : Refuses (file 3 1 2 (of 5 0 2)) 6 0
  pub write_2 : Refuses (file 3 1 2 (of 6 0 2)) 6 0
  pub no_cells : Accepts (file 1 1 0 (S 0))
  -- a joined task has no later record
  pub joined_goes_on : Refuses (file 2 0 1 (Fork 0 1 ++ Join 0 1 ++ R 1)) 7 2
  -- a fork names another task, not forked before and with no record before
  pub forks_itself : Refuses (file 1 0 0 (Fork 0 0)) 7 0
  pub forked_twice : Refuses (file 2 0 0 (Fork 0 1 ++ Fork 0 1)) 7 1
  pub forked_late : Refuses (file 2 0 1 (W 1 ++ Fork 0 1)) 7 1
  -- a join names another task, forked before and not joined before
  pub joins_itself : Refuses (file 2 0 0 (Fork 0 1 ++ Join 1 1)) 7 1
  pub joined_unforked : Refuses (file 2 0 1 (W 1 ++ Join 0 1)) 7 1
  pub joined_twice : Refuses (file 3 0 0 (Fork 0 1 ++ Join 0 1 ++ Join 2 1)) 7 2
  -- at a wait, the earlier signals on that semaphore outnumber the earlier waits on it
  pub waits_twice : Refuses (file 2 1 0 (S 0 ++ P 1 ++ P 0)) 8 2
  pub waits_early : Refuses (file 2 1 0 (P 1 ++ S 0)) 8 0
  pub waits_on_another : Refuses (file 1 2 0 (S 0 ++ of 2 0 1)) 8 1
  pub served_twice : Accepts (file 2 1 0 (S 0 ++ S 0 ++ P 1 ++ P 1))
