-- What each call leaves in the memory that it is lent, refusals too (document 01, List and marks and Refusal table).
-- Proved as `lent` in proofs/Rows.antt. Assumes nothing.
use Rattle.std.specs.Prelude.{ℕ, ◌≡◌, List, [], ◌∷◌, ◌++◌, Ok}
use Rattle.model.specs.Analysing.{work_after_analysing, list_after_analysing}
use Rattle.model.specs.Question.{work_after_asking}
use Rattle.model.specs.Writing.{written_of, out_after_writing}
use Rattle.model.specs.Rows.Starred.{W, Fork, file, A, I}
use Rattle.model.specs.Rows.Faults.{trailer}
use Rattle.model.specs.Rows.Raised.{idle}
use Rattle.model.specs.Rows.Flagged.{Post, Await}
use Rattle.model.specs.Rows.Table.{lent, least, edited, flagged}

-- the vectors of A at the start and once raised, which are the recorded ones too
abbrev pub A_start : List ℕ
A_start = 1 ∷ 0 ∷ 2 ∷ 0 ∷ 0 ∷ 1 ∷ 0 ∷ 2 ∷ []

abbrev pub A_raised : List ℕ
A_raised = 1 ∷ 0 ∷ 2 ∷ 0 ∷ 2 ∷ 1 ∷ 2 ∷ 2 ∷ []

pub record Lent : Type 0 where
  -- analysing: safe vectors, recorded vectors, the entries, and beyond them what was there
  pub work_start : work_after_analysing A 0 (lent 17) ≡ A_start ++ A_raised ++ lent 1
  pub work_raised : work_after_analysing A 1 (lent 16) ≡ A_raised ++ A_raised
  pub work_three_tasks : work_after_analysing idle 5 (lent 13) ≡ 1 ∷ 0 ∷ 0 ∷ 1 ∷ 1 ∷ 0 ∷ 1 ∷ 0 ∷ 0 ∷ 1 ∷ 1 ∷ 0 ∷ lent 1
  pub list_one : list_after_analysing A 0 (lent 17) (lent 4) ≡ 0 ∷ 3 ∷ 0 ∷ lent 1
  pub list_none : list_after_analysing A 1 (lent 17) (lent 4) ≡ lent 4
  -- refused by the file, by 9, and by 10, where the work memory is filled all the same: it does not hang on the list
  pub file_work : work_after_analysing I 0 (lent 4) ≡ lent 4
  pub file_list : list_after_analysing I 0 (lent 4) (lent 3) ≡ lent 3
  pub work_short_work : work_after_analysing A 0 (lent 15) ≡ lent 15
  pub work_short_list : list_after_analysing A 0 (lent 15) (lent 3) ≡ lent 3
  pub list_short_list : list_after_analysing A 0 (lent 17) (lent 2) ≡ lent 2
  -- a question: each of the four answers, then refused by the file, by 11, by 9
  pub a_first : work_after_asking A 0 3 1 (lent 17) ≡ A_raised ++ A_raised ++ lent 1
  pub b_first : work_after_asking A 3 0 1 (lent 17) ≡ A_raised ++ A_raised ++ lent 1
  pub is_open : work_after_asking A 0 3 0 (lent 17) ≡ A_start ++ A_raised ++ lent 1
  pub is_sure : work_after_asking (file 2 0 1 (W 0 ++ W 1)) 0 1 0 (lent 9) ≡ 1 ∷ 0 ∷ 0 ∷ 1 ∷ 1 ∷ 0 ∷ 0 ∷ 1 ∷ lent 1
  pub ask_file : work_after_asking I 0 1 0 (lent 4) ≡ lent 4
  pub ask_event : work_after_asking A 3 3 0 (lent 17) ≡ lent 17
  pub ask_work_short : work_after_asking A 0 3 0 (lent 15) ≡ lent 15
  -- writing: the length and the file, and beyond it what was there; refused by a record, by 13, and by 12
  pub length : written_of (W 0) least [] [] (lent 21) ≡ Ok 20
  pub written : out_after_writing (W 0) least [] [] (lent 21) ≡ W 0 ++ trailer 0 1 1 0 1 1 ++ lent 1
  pub no_records : out_after_writing [] least [] [] (lent 17) ≡ trailer 0 0 1 0 1 1 ++ lent 1
  pub just_fits : written_of (W 0) least [] [] (lent 20) ≡ Ok 20
  pub length_starts : written_of (W 0) (edited 2) (4 ∷ 255 ∷ []) [] (lent 23) ≡ Ok 22
  pub written_starts : out_after_writing (W 0) (edited 2) (4 ∷ 255 ∷ []) [] (lent 23) ≡ W 0 ++ (4 ∷ 255 ∷ trailer 0 1 1 2 1 2) ++ lent 1
  pub length_posts : written_of (Post 0 ++ Await 0) flagged (4 ∷ 255 ∷ []) (1 ∷ []) (lent 27) ≡ Ok 27
  pub written_posts : out_after_writing (Post 0 ++ Await 0) flagged (4 ∷ 255 ∷ []) (1 ∷ []) (lent 28)
      ≡ Post 0 ++ Await 0 ++ (4 ∷ 255 ∷ 1 ∷ 0 ∷ 0 ∷ 0 ∷ 0 ∷ 2 ∷ 0 ∷ 0 ∷ 0 ∷ 1 ∷ 0 ∷ 2 ∷ 1 ∷ 1 ∷ 0 ∷ 3 ∷ 0 ∷ []) ++ lent 1
  pub record_refused : out_after_writing (Fork 0 0) least [] [] (lent 21) ≡ lent 21
  pub starts_refused : out_after_writing (W 0) (edited 2) (lent 1) [] (lent 23) ≡ lent 23
  pub posts_refused : out_after_writing (W 0) flagged (lent 2) (0 ∷ []) (lent 30) ≡ lent 30
  pub out_short : out_after_writing (W 0) least [] [] (lent 19) ≡ lent 19
