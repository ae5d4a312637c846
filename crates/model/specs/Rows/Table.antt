-- The numbers of documents 01 and 02, No. 1 and 6: each refusal of the table and each answer to a question, as a concrete call gives it, and which
-- refusal is answered where two apply. Proved as `table` in proofs/Rows.antt. Assumes nothing.
use Rattle.std.specs.Prelude.{ℕ, ◌≡◌, List, [], ◌∷◌, ◌++◌, replicate, Result, Ok}
use Rattle.model.specs.declared.Refusal.{Refusal}
use Rattle.model.specs.declared.Counts.{Counts}
use Rattle.model.specs.declared.Relation.{Relation}
use Rattle.model.specs.Analysing.{analysis_of}
use Rattle.model.specs.Question.{relation_number, answer_of}
use Rattle.model.specs.Writing.{written_of}
use Rattle.model.specs.Rows.Starred.{of, W, P, Fork, file, A, G, I, RefusedAs, Refuses}
use Rattle.model.specs.Rows.Faults.{trailer}
use Rattle.model.specs.Rows.Raised.{idle}
use Rattle.model.specs.Rows.Flagged.{Post, Await, counted, after}

-- lent numbers, as they are before a call
abbrev pub lent : ℕ → List ℕ
lent n = replicate n 9

-- 1 task, no semaphore, 1 cell, in edition 1
abbrev pub least : Counts
least = record { tasks = 1; semaphores = 0; cells = 1; edition = 1 }

-- 1 task, 2 semaphores, 1 cell, in this edition
abbrev pub edited : ℕ → Counts
edited e = record { tasks = 1; semaphores = 2; cells = 1; edition = e }

-- 1 task, 2 semaphores, 1 flag, 1 cell
abbrev pub flagged : Counts
flagged = counted 1 2 1 1

-- a task too many, in edition 2
abbrev pub excess : Counts
excess = record { tasks = 17; semaphores = 0; cells = 0; edition = 2 }

-- the answer to a question has this number
abbrev pub AnsweredAs : Result Relation Refusal → ℕ → Type 0
AnsweredAs answer n = (r : Relation) × (answer ≡ Ok r) × (relation_number r ≡ n)

pub record Table : Type 0 where
  -- number and record; of the later ones also the pairs needed
  pub short : Refuses [] 1 0
  pub edition : Refuses (trailer 0 0 1 0 0 4) 2 0
  pub extent : Refuses (0 ∷ trailer 0 0 1 0 0 1) 3 0
  pub count : Refuses (trailer 0 0 17 0 0 1) 4 0
  pub kind : Refuses (file 1 1 1 (W 0 ++ of 7 0 0)) 5 1
  pub name : Refuses (file 1 1 1 (W 0 ++ W 1)) 6 1
  pub life : Refuses (file 1 1 1 (W 0 ++ Fork 0 0)) 7 1
  pub empty : Refuses (file 1 1 1 (W 0 ++ P 0)) 8 1
  pub work : RefusedAs (analysis_of A 0 (lent 15) (lent 3)) 9 0 0
  pub work_3 : RefusedAs (analysis_of idle 0 (lent 11) []) 9 0 0
  pub work_asked : RefusedAs (answer_of A 0 3 0 (lent 15)) 9 0 0
  pub list : RefusedAs (analysis_of A 0 (lent 16) (lent 2)) 10 0 1
  pub list_3 : RefusedAs (analysis_of G 0 (lent 24) (lent 8)) 10 0 3
  pub event_a : RefusedAs (answer_of A 4 0 0 (lent 16)) 11 0 0
  pub event_b : RefusedAs (answer_of A 0 4 0 (lent 16)) 11 0 0
  pub event_same : RefusedAs (answer_of A 3 3 0 (lent 16)) 11 0 0
  pub out : RefusedAs (written_of (W 0) least [] [] (lent 19)) 12 0 0
  pub out_starts : RefusedAs (written_of (W 0) (edited 2) (lent 2) [] (lent 21)) 12 0 0
  pub out_posts : RefusedAs (written_of (W 0) flagged (lent 2) (lent 1) (lent 22)) 12 0 0
  pub starts : RefusedAs (written_of (W 0) (edited 2) (lent 1) [] (lent 22)) 13 0 0
  pub starts_more : RefusedAs (written_of (W 0) (edited 2) (lent 3) [] (lent 23)) 13 0 0
  pub starts_edition_1 : RefusedAs (written_of (W 0) (edited 1) (lent 2) [] (lent 22)) 13 0 0
  pub starts_edition_3 : RefusedAs (written_of (W 0) flagged (lent 1) (lent 1) (lent 30)) 13 0 0
  pub starts_more_edition_3 : RefusedAs (written_of (W 0) flagged (lent 3) (lent 1) (lent 30)) 13 0 0
  pub posts : RefusedAs (written_of (W 0) flagged (lent 2) [] (lent 30)) 13 0 0
  pub posts_more : RefusedAs (written_of (W 0) flagged (lent 2) (lent 2) (lent 30)) 13 0 0
  pub posts_as_starts : RefusedAs (written_of (W 0) flagged (lent 3) [] (lent 30)) 13 0 0
  pub posts_edition_1 : RefusedAs (written_of (W 0) least [] (lent 1) (lent 30)) 13 0 0
  pub posts_edition_2 : RefusedAs (written_of (W 0) (edited 2) (lent 2) (lent 1) (lent 30)) 13 0 0
  pub flag : Refuses (after 1 (W 0 ++ Await 0)) 16 1
  -- writing refuses by 2 to 8 and 16 what reading would
  pub edition_0_written : RefusedAs (written_of (W 0) (edited 0) [] [] (lent 22)) 2 0 0
  pub edition_4_written : RefusedAs (written_of (W 0) (edited 4) (lent 2) [] (lent 22)) 2 0 0
  pub extent_written : RefusedAs (written_of (0 ∷ []) least [] [] (lent 17)) 3 0 0
  pub count_written : RefusedAs (written_of [] excess [] [] (lent 16)) 4 0 0
  pub flags_written : RefusedAs (written_of [] (counted 1 0 65 0) [] (lent 65) (lent 90)) 4 0 0
  pub kind_written : RefusedAs (written_of (W 0 ++ of 7 0 0) least [] [] (lent 24)) 5 1 0
  pub empty_written : RefusedAs (written_of (P 0 ++ P 0) (edited 2) (1 ∷ 0 ∷ []) [] (lent 26)) 8 1 0
  pub flag_written : RefusedAs (written_of (Post 0 ++ Await 0) flagged (lent 2) (2 ∷ []) (lent 30)) 16 1 0
  -- a lent post count of 0 is 4, in every edition
  pub post_0 : RefusedAs (written_of (W 0) flagged (lent 2) (0 ∷ []) (lent 30)) 4 0 0
  pub post_0_edition_2 : RefusedAs (written_of (W 0) (edited 2) (lent 2) (0 ∷ []) (lent 30)) 4 0 0
  pub post_0_edition_1 : RefusedAs (written_of (W 0) least [] (0 ∷ []) (lent 30)) 4 0 0
  -- where two apply
  pub file_before_work : RefusedAs (analysis_of I 0 [] []) 7 0 0
  pub file_before_event : RefusedAs (answer_of I 0 0 0 []) 7 0 0
  pub event_before_work : RefusedAs (answer_of A 0 0 0 (lent 15)) 11 0 0
  pub work_before_list : RefusedAs (analysis_of A 0 (lent 15) (lent 2)) 9 0 0
  pub edition_before_extent : RefusedAs (written_of (0 ∷ []) (edited 4) [] (0 ∷ []) []) 2 0 0
  pub extent_before_count : RefusedAs (written_of (0 ∷ []) excess [] [] []) 3 0 0
  pub extent_before_post : RefusedAs (written_of (0 ∷ []) flagged (lent 2) (0 ∷ []) []) 3 0 0
  pub extent_before_kind : RefusedAs (written_of (0 ∷ of 7 0 0) least [] [] []) 3 0 0
  pub count_before_starts : RefusedAs (written_of [] excess (lent 1) [] []) 4 0 0
  pub post_before_starts : RefusedAs (written_of [] flagged [] (lent 1 ++ (0 ∷ [])) []) 4 0 0
  pub starts_before_record : RefusedAs (written_of (Fork 0 0) least (lent 1) [] []) 13 0 0
  pub posts_before_record : RefusedAs (written_of (Await 0) flagged (lent 2) [] []) 13 0 0
  pub record_before_out : RefusedAs (written_of (Fork 0 0) least [] [] []) 7 0 0
  pub flag_before_out : RefusedAs (written_of (Await 0) flagged (lent 2) (lent 1) []) 16 0 0
  -- 1 a first, 2 b first, 3 open, 4 sure
  pub a_first : AnsweredAs (answer_of A 0 3 1 (lent 16)) 1
  pub b_first : AnsweredAs (answer_of A 3 0 1 (lent 16)) 2
  pub is_open : AnsweredAs (answer_of A 0 3 0 (lent 16)) 3
  pub open_back : AnsweredAs (answer_of A 3 0 0 (lent 16)) 3
  pub is_sure : AnsweredAs (answer_of (file 2 0 1 (W 0 ++ W 1)) 0 1 0 (lent 8)) 4
