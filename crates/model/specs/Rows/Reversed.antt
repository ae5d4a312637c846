-- Orders that show a pair reversed (document 02, No. 5 and 6): the sure pairs of documents 01 and 02 written both ways, pairs that the recorded
-- run orders, which refusal is answered where two apply, and what is left in the lent memory.
-- Proved as `turned` in proofs/Rows.antt. Assumes nothing.
use Rattle.std.specs.Prelude.{ℕ, ◌+◌, ◌≡◌, List, [], ◌∷◌, ◌++◌, Ok, Err}
use Rattle.model.specs.declared.Refusal.{Refusal}
use Rattle.model.specs.Refusals.{number_of, record_of, pairs_of, differing_task, differing_position}
use Rattle.model.specs.Analysing.{work_after_analysing}
use Rattle.model.specs.Reversed.{reversed_of, work_after_reversing, out_after_reversing}
use Rattle.model.specs.Rows.Starred.{W, R, S, P, Fork, Join, file, A, B, C, E, G, I, work, RefusedAs}
use Rattle.model.specs.Rows.Started.{pool}
use Rattle.model.specs.Rows.Faults.{trailer}
use Rattle.model.specs.Rows.Flagged.{Post, Await, kernel, after, either, sooner}
use Rattle.model.specs.Rows.Table.{lent}
use Rattle.model.specs.Rows.Lent.{A_start, A_raised}

-- the call on f with x chosen and y the other answers the length n and leaves g; the two output bytes beyond it stay
abbrev pub Writes : List ℕ → ℕ → ℕ → ℕ → List ℕ → Type 0
Writes f x y n g = (reversed_of f x y work (lent (n + 2)) ≡ Ok n) × (out_after_reversing f x y work (lent (n + 2)) ≡ g ++ lent 2)

-- it is refused by 15, which is no record's fault and needs no pairs, and no task differs
abbrev pub Unsure : List ℕ → ℕ → ℕ → Type 0
Unsure f x y =
    (r : Refusal) × (reversed_of f x y work (lent 40) ≡ Err r)
    × (number_of r ≡ 15) × (record_of r ≡ 0) × (pairs_of r ≡ 0) × (differing_task r ≡ 0) × (differing_position r ≡ 0)

-- with m work numbers and k output bytes it is refused by this number at this record
abbrev pub Refused : List ℕ → ℕ → ℕ → ℕ → ℕ → ℕ → ℕ → Type 0
Refused f x y m k number e = RefusedAs (reversed_of f x y (lent m) (lent k)) number e 0

-- a pool that starts at four, in edition 2
abbrev pub four : List ℕ
four = pool 2 1 1 (4 ∷ []) (W 0 ++ S 0 ++ P 1 ++ P 1 ++ P 1 ++ P 1 ++ R 1 ++ P 1 ++ R 1)

-- a semaphore that starts at 9 and a flag that opens after one post: task 2's, or task 0's after its write
abbrev pub opened : List ℕ
opened = kernel 3 1 1 1 (9 ∷ []) (1 ∷ []) sooner

-- task 0 forks task 1, which writes, and joins it; task 2 writes in between
abbrev pub lived : List ℕ
lived = file 3 0 1 (Fork 0 1 ++ W 2 ++ W 1 ++ Join 0 1 ++ R 0)

-- the preamble 7, 8, 9 and two writes, without start bytes and with two
abbrev pub headed : List ℕ
headed = 7 ∷ 8 ∷ 9 ∷ W 0 ++ W 1 ++ trailer 3 2 2 0 1 1

abbrev pub stocked : List ℕ
stocked = 7 ∷ 8 ∷ 9 ∷ W 0 ++ W 1 ++ (5 ∷ 6 ∷ trailer 3 2 2 2 1 2)

-- the vectors of G at the start, and recorded
abbrev pub G_start : List ℕ
G_start = 1 ∷ 0 ∷ 2 ∷ 0 ∷ 0 ∷ 1 ∷ 3 ∷ 0 ∷ 4 ∷ 0 ∷ 5 ∷ 0 ∷ []

abbrev pub G_recorded : List ℕ
G_recorded = 1 ∷ 0 ∷ 2 ∷ 0 ∷ 2 ∷ 1 ∷ 3 ∷ 0 ∷ 4 ∷ 1 ∷ 5 ∷ 1 ∷ []

pub record Turned : Type 0 where
  -- the sure pairs, with either event chosen
  pub c_write : Writes C 1 4 36 (file 3 1 1 (W 0 ++ S 1 ++ S 0 ++ P 2 ++ R 2))
  pub c_read : Writes C 4 1 36 (file 3 1 1 (S 1 ++ P 2 ++ R 2 ++ W 0 ++ S 0))
  pub e_write : Writes E 0 5 40 (file 4 1 1 (W 0 ++ S 0 ++ S 1 ++ P 2 ++ P 3 ++ R 3))
  pub e_read : Writes E 5 0 40 (file 4 1 1 (S 1 ++ P 3 ++ R 3 ++ W 0 ++ S 0 ++ P 2))
  pub g_write : Writes G 2 3 40 (file 2 0 1 (W 0 ++ Fork 0 1 ++ W 1 ++ R 0 ++ Join 0 1 ++ W 0))
  pub g_read : Writes G 3 2 40 (file 2 0 1 (W 0 ++ Fork 0 1 ++ R 0 ++ W 1 ++ Join 0 1 ++ W 0))
  pub four_write : Writes four 0 6 53 (pool 2 1 1 (4 ∷ []) (W 0 ++ S 0 ++ P 1 ++ P 1 ++ P 1 ++ P 1 ++ R 1 ++ P 1 ++ R 1))
  pub four_read : Writes four 6 0 53 (pool 2 1 1 (4 ∷ []) (P 1 ++ P 1 ++ P 1 ++ P 1 ++ R 1 ++ W 0 ++ S 0 ++ P 1 ++ R 1))
  -- a flag wait comes forward with the first posts, as many as the post count
  pub flag_write : Writes opened 1 4 38 (kernel 3 1 1 1 (9 ∷ []) (1 ∷ []) (W 0 ++ Post 2 ++ Post 0 ++ Await 1 ++ R 1))
  pub flag_read : Writes opened 4 1 38 (kernel 3 1 1 1 (9 ∷ []) (1 ∷ []) (Post 2 ++ Await 1 ++ R 1 ++ W 0 ++ Post 0))
  -- an event comes forward with its fork, and with the join before it
  pub with_fork : Writes lived 2 1 36 (file 3 0 1 (Fork 0 1 ++ W 1 ++ W 2 ++ Join 0 1 ++ R 0))
  pub with_join : Writes lived 4 1 36 (file 3 0 1 (Fork 0 1 ++ W 1 ++ Join 0 1 ++ R 0 ++ W 2))
  pub alone : Writes lived 1 4 36 (file 3 0 1 (W 2 ++ Fork 0 1 ++ W 1 ++ Join 0 1 ++ R 0))
  -- the two need not conflict: here a wait and a signal that does not serve it
  pub no_conflict : Writes C 3 2 36 (file 3 1 1 (S 1 ++ P 2 ++ W 0 ++ S 0 ++ R 2))
  -- a preamble is dropped, and start is 0
  pub preamble : Writes headed 1 0 24 (W 1 ++ W 0 ++ trailer 0 2 2 0 1 1)
  pub preamble_starts : Writes stocked 1 0 26 (W 1 ++ W 0 ++ (5 ∷ 6 ∷ trailer 0 2 2 2 1 2))
  -- 15: a pair that every order puts so, one that is open, two events of one task
  pub unsure : Unsure A 0 3
  pub unsure_turned : Unsure A 3 0
  pub is_open : Unsure B 0 4
  pub open_turned : Unsure B 4 0
  pub flag_open : Unsure (after 1 either) 0 4
  pub one_task : Unsure C 1 2
  pub one_task_turned : Unsure C 2 1
  -- 11, of either number and of both; 9; and 12, with room for all but the last byte, and for it
  pub event_chosen : Refused A 4 0 16 40 11 0
  pub event_other : Refused A 0 4 16 40 11 0
  pub event_same : Refused A 3 3 16 40 11 0
  pub work_short : Refused C 1 4 29 36 9 0
  pub out_short : Refused C 1 4 30 35 12 0
  pub out_fits : reversed_of C 1 4 (lent 30) (lent 36) ≡ Ok 36
  pub out_short_starts : Refused four 0 6 36 52 12 0
  pub out_fits_starts : reversed_of four 0 6 (lent 36) (lent 53) ≡ Ok 53
  pub out_short_posts : Refused opened 1 4 30 37 12 0
  pub out_fits_posts : reversed_of opened 1 4 (lent 30) (lent 38) ≡ Ok 38
  -- where two apply: the file, 11, 9, 15, 12
  pub file_before_event : Refused I 0 0 0 0 7 0
  pub event_before_work : Refused A 0 0 15 0 11 0
  pub work_before_unsure : Refused A 0 3 15 40 9 0
  pub unsure_before_out : Refused A 0 3 16 0 15 0
  -- what is left in the work memory, whatever the output: as after analysing with budget 0, also after 15
  pub work_left : work_after_reversing G 3 2 (lent 25) ≡ G_start ++ G_recorded ++ lent 1
  pub work_unsure : work_after_reversing A 0 3 (lent 17) ≡ A_start ++ A_raised ++ lent 1
  pub work_left_analysed : work_after_reversing G 3 2 (lent 25) ≡ work_after_analysing G 0 (lent 25)
  pub work_starts_analysed : work_after_reversing four 6 0 (lent 37) ≡ work_after_analysing four 0 (lent 37)
  pub work_posts_analysed : work_after_reversing opened 4 1 (lent 30) ≡ work_after_analysing opened 0 (lent 30)
  pub work_unsure_analysed : work_after_reversing B 4 0 (lent 30) ≡ work_after_analysing B 0 (lent 30)
  -- another refusal leaves it
  pub work_event : work_after_reversing A 3 3 (lent 17) ≡ lent 17
  pub work_kept : work_after_reversing A 0 3 (lent 15) ≡ lent 15
  pub work_file : work_after_reversing I 0 1 (lent 4) ≡ lent 4
  -- and each leaves the output
  pub out_file : out_after_reversing I 0 1 (lent 4) (lent 40) ≡ lent 40
  pub out_event : out_after_reversing A 3 3 (lent 16) (lent 40) ≡ lent 40
  pub out_work : out_after_reversing C 1 4 (lent 29) (lent 36) ≡ lent 36
  pub out_unsure : out_after_reversing A 0 3 (lent 16) (lent 40) ≡ lent 40
  pub out_kept : out_after_reversing C 1 4 (lent 30) (lent 35) ≡ lent 35
