-- Two recordings held together (document 02, No. 4 and 6): the recordings of document 01 with themselves, two that differ in their recorded
-- runs, each way in which two recordings differ, which refusal is answered where two apply, and what is left in the lent memory.
-- Proved as `joined` in proofs/Rows.antt. Assumes nothing.
use Rattle.std.specs.Prelude.{ℕ, ◌/◌, ◌≡◌, List, [], ◌∷◌, ◌++◌, length, Ok, Err}
use Rattle.model.specs.declared.Refusal.{Refusal}
use Rattle.model.specs.Refusals.{number_of, record_of, differing_task, differing_position}
use Rattle.model.specs.Together.{joint_of, first_work_after, second_work_after, joint_list_after}
use Rattle.model.specs.Rows.Starred.{of, W, R, S, P, file, A, B, C, D, E, F, G, H, I, J, work, room, RefusedAs}
use Rattle.model.specs.Rows.Started.{pool, once}
use Rattle.model.specs.Rows.Flagged.{kernel, after, either, sooner}
use Rattle.model.specs.Rows.Table.{lent}

-- held together, f and g list just these numbers, five an entry
abbrev pub Lists : List ℕ → List ℕ → List ℕ → Type 0
Lists f g l = (joint_of f g work work (room l) ≡ Ok (length l / 5)) × (joint_list_after f g work work (room l) ≡ l)

-- they differ at this task and position, which is no record's fault; no memory need be lent
abbrev pub Differ : List ℕ → List ℕ → ℕ → ℕ → Type 0
Differ f g t p =
    (r : Refusal) × (joint_of f g [] [] [] ≡ Err r) × (number_of r ≡ 14) × (record_of r ≡ 0) × (differing_task r ≡ t) × (differing_position r ≡ p)

-- the call with f and g, works of m and n numbers and a list of k, is refused by this number at this record, with these pairs needed
abbrev pub Refused : List ℕ → List ℕ → ℕ → ℕ → ℕ → ℕ → ℕ → ℕ → Type 0
Refused f g m n k number e pairs = RefusedAs (joint_of f g (lent m) (lent n) (lent k)) number e pairs

-- a job: task 0 writes cells 0 and 1, task 1 reads them; and its records in another order
abbrev pub job : List ℕ
job = file 2 1 2 (W 0 ++ of 6 0 1 ++ R 1 ++ of 5 1 1)

abbrev pub shuffled : List ℕ
shuffled = file 2 1 2 (R 1 ++ W 0 ++ of 5 1 1 ++ of 6 0 1)

-- the vectors of B and C, settled and recorded: event by event, one number for each of the 3 tasks
abbrev pub B_settled : List ℕ
B_settled = 1 ∷ 0 ∷ 0 ∷ 2 ∷ 0 ∷ 0 ∷ 0 ∷ 1 ∷ 0 ∷ 0 ∷ 0 ∷ 1 ∷ 0 ∷ 0 ∷ 2 ∷ []

abbrev pub B_recorded : List ℕ
B_recorded = 1 ∷ 0 ∷ 0 ∷ 2 ∷ 0 ∷ 0 ∷ 0 ∷ 1 ∷ 0 ∷ 2 ∷ 0 ∷ 1 ∷ 2 ∷ 0 ∷ 2 ∷ []

abbrev pub C_settled : List ℕ
C_settled = 0 ∷ 1 ∷ 0 ∷ 1 ∷ 0 ∷ 0 ∷ 2 ∷ 0 ∷ 0 ∷ 0 ∷ 0 ∷ 1 ∷ 0 ∷ 0 ∷ 2 ∷ []

abbrev pub C_recorded : List ℕ
C_recorded = 0 ∷ 1 ∷ 0 ∷ 1 ∷ 0 ∷ 0 ∷ 2 ∷ 0 ∷ 0 ∷ 0 ∷ 1 ∷ 1 ∷ 0 ∷ 1 ∷ 2 ∷ []

-- the one entry of B and C
abbrev pub B_and_C : List ℕ
B_and_C = 0 ∷ 1 ∷ 2 ∷ 2 ∷ 1 ∷ []

pub record Joined : Type 0 where
  -- the recordings of document 01 with themselves
  pub a : Lists A A []
  pub b : Lists B B (0 ∷ 1 ∷ 2 ∷ 2 ∷ 0 ∷ [])
  pub c : Lists C C (0 ∷ 1 ∷ 2 ∷ 2 ∷ 1 ∷ [])
  pub d : Lists D D []
  pub e : Lists E E (0 ∷ 1 ∷ 3 ∷ 2 ∷ 1 ∷ [])
  pub f : Lists F F []
  pub g : Lists G G (0 ∷ 3 ∷ 1 ∷ 1 ∷ 1 ∷ [])
  pub h : Lists H H []
  pub i : Refused I I 4 4 0 7 0 0
  pub j : Refused J J 2 2 0 8 0 0
  -- B and C are one job: its pair is open in B and sure in C, and so sure in both, by the second alone and by the first alone
  pub sure_by_second : Lists B C B_and_C
  pub sure_by_first : Lists C B B_and_C
  -- and so with a flag, where the recorded run follows the first post
  pub flag_by_second : Lists (after 1 either) (after 1 sooner) (0 ∷ 1 ∷ 1 ∷ 2 ∷ 1 ∷ [])
  pub flag_by_first : Lists (after 1 sooner) (after 1 either) (0 ∷ 1 ∷ 1 ∷ 2 ∷ 1 ∷ [])
  -- the order of the list is by cell, task and position, whatever order the records arrived in
  pub in_order_kept : Lists job shuffled (0 ∷ 1 ∷ 1 ∷ 1 ∷ 1 ∷ 0 ∷ 2 ∷ 1 ∷ 2 ∷ 1 ∷ [])
  pub in_order_turned : Lists shuffled job (0 ∷ 1 ∷ 1 ∷ 1 ∷ 1 ∷ 0 ∷ 2 ∷ 1 ∷ 2 ∷ 1 ∷ [])
  -- counts, start counts and post counts, with task 0 and position 0; edition 1 starts at 0, and the editions may differ
  pub tasks : Differ (file 2 1 1 (W 0)) (file 3 1 1 (W 0)) 0 0
  pub semaphores : Differ (file 2 1 1 (W 0)) (file 2 2 1 (W 0)) 0 0
  pub cells : Differ (file 2 1 1 (W 0)) (file 2 1 2 (W 0)) 0 0
  pub starts : Differ (once 0) (once 1) 0 0
  pub second_start : Differ (pool 1 2 0 (4 ∷ 5 ∷ []) []) (pool 1 2 0 (4 ∷ 6 ∷ []) []) 0 0
  pub starts_edition_1 : Differ A (once 1) 0 0
  pub editions : Lists A (once 0) []
  pub flags : Differ (kernel 1 1 1 0 (1 ∷ []) (1 ∷ []) []) (kernel 1 1 2 0 (1 ∷ []) (1 ∷ 1 ∷ []) []) 0 0
  pub no_flags : Differ (kernel 1 0 1 0 [] (1 ∷ []) []) (file 1 0 0 []) 0 0
  pub posts : Differ (after 1 either) (after 2 either) 0 0
  pub second_post : Differ (kernel 1 0 2 0 [] (4 ∷ 5 ∷ []) []) (kernel 1 0 2 0 [] (4 ∷ 6 ∷ []) []) 0 0
  pub starts_edition_3 : Differ (kernel 1 1 1 0 (4 ∷ []) (1 ∷ []) []) (kernel 1 1 1 0 (5 ∷ []) (1 ∷ []) []) 0 0
  pub posts_before_records : Differ (after 1 (W 0)) (after 2 (R 0)) 0 0
  pub editions_1_3 : Lists A (kernel 2 1 0 1 (0 ∷ []) [] (W 0 ++ S 0 ++ P 1 ++ R 1)) []
  pub counts_before_records : Differ (file 2 1 1 (W 0)) (file 3 1 1 (R 0)) 0 0
  -- kind, object, a missing record in either, at the first position that differs, of the lowest task that does
  pub kind : Differ (file 1 1 1 (W 0 ++ R 0)) (file 1 1 1 (W 0 ++ W 0)) 0 2
  pub object : Differ (file 1 1 2 (R 0 ++ R 0)) (file 1 1 2 (of 5 0 1 ++ of 5 0 1)) 0 1
  pub missing_in_second : Differ (file 2 1 1 (W 1 ++ W 0 ++ R 1)) (file 2 1 1 (W 0 ++ W 1)) 1 2
  pub missing_in_first : Differ (file 2 1 1 (W 0)) (file 2 1 1 (W 0 ++ W 1)) 1 1
  pub own_order : Differ (file 1 1 1 (W 0 ++ R 0)) (file 1 1 1 (R 0 ++ W 0)) 0 1
  pub lowest_task : Differ (file 3 1 1 (W 2 ++ W 1)) (file 3 1 1 (R 2 ++ R 1)) 1 1
  pub tasks_swapped : Differ (file 2 1 1 (W 0 ++ R 1)) (file 2 1 1 (W 1 ++ R 0)) 0 1
  -- 9 of either work, and 10 with the pairs needed
  pub work_first : Refused B C 29 30 5 9 0 0
  pub work_second : Refused B C 30 29 5 9 0 0
  pub list : Refused B C 30 30 4 10 0 1
  -- where two apply: the first file, the second file, 14, 9, 10
  pub first_before_second : Refused I J 0 0 0 7 0 0
  pub second_before_differ : Refused A J 0 0 0 8 0 0
  pub work_before_list : Refused B C 29 30 4 9 0 0
  -- what is left: each work as after analysing its own file, the entries, and beyond them what was there
  pub first_work : first_work_after B C (lent 31) (lent 31) ≡ B_settled ++ B_recorded ++ lent 1
  pub second_work : second_work_after B C (lent 31) (lent 31) ≡ C_settled ++ C_recorded ++ lent 1
  pub entries : joint_list_after B C (lent 30) (lent 30) (lent 6) ≡ B_and_C ++ lent 1
  -- 10 leaves the list, 9 and 14 and the files' refusals all of them
  pub list_short : joint_list_after B C (lent 30) (lent 30) (lent 4) ≡ lent 4
  pub work_short_first : first_work_after B C (lent 30) (lent 29) ≡ lent 30
  pub work_short_second : second_work_after B C (lent 29) (lent 30) ≡ lent 30
  pub work_short_list : joint_list_after B C (lent 30) (lent 29) (lent 5) ≡ lent 5
  pub differ_first : first_work_after B A (lent 30) (lent 30) ≡ lent 30
  pub differ_second : second_work_after B A (lent 30) (lent 30) ≡ lent 30
  pub differ_list : joint_list_after B A (lent 30) (lent 30) (lent 5) ≡ lent 5
  pub refused_first : first_work_after B I (lent 30) (lent 30) ≡ lent 30
  pub refused_second : second_work_after I B (lent 30) (lent 30) ≡ lent 30
