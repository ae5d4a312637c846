-- Flags that stay up (document 02, No. 6): the worked recordings, what a flag wait needs and follows, semaphores and flags in one file,
-- and files of edition 3 at their edges.
-- Each row computes the whole way from a file's bytes. Proved as `flagged` in proofs/Starred.antt. Assumes nothing.
use Rattle.std.specs.Prelude.{ℕ, ◌+◌, ◌*◌, true, List, [], ◌∷◌, ◌++◌, replicate}
use Rattle.model.specs.declared.Counts.{Counts}
use Rattle.model.specs.Writing.{file_of}
use Rattle.model.specs.Rows.Starred.{of, W, R, S, P, Fork, Join, file, Analyses, Accepts, Refuses}
use Rattle.model.specs.Rows.Started.{pool}
use Rattle.model.specs.Rows.Faults.{trailer}
use Rattle.model.specs.Rows.Raised.{three, Raises, Records}

-- task t posts to, waits on flag 0
abbrev pub Post : ℕ → List ℕ
Post t = of 7 t 0

abbrev pub Await : ℕ → List ℕ
Await t = of 8 t 0

-- t tasks, s semaphores, g flags and c cells, in edition 3
abbrev pub counted : ℕ → ℕ → ℕ → ℕ → Counts
counted t s g c = record { tasks = t; semaphores = s + 256 * g; cells = c; edition = 3 }

-- a file with these, the start bytes b and the post bytes p
abbrev pub kernel : ℕ → ℕ → ℕ → ℕ → List ℕ → List ℕ → List ℕ → List ℕ
kernel t s g c b p l = file_of l (counted t s g c) (b ++ p)

-- 3 tasks, 1 cell, and a flag that opens after n posts
abbrev pub after : ℕ → List ℕ → List ℕ
after n l = kernel 3 0 1 1 [] (n ∷ []) l

-- a post and a flag wait between a write and a read
abbrev pub once : List ℕ
once = W 0 ++ Post 0 ++ Await 1 ++ R 1

-- the same with another task's post after the first, and before the write
abbrev pub either : List ℕ
either = W 0 ++ Post 0 ++ Post 2 ++ Await 1 ++ R 1

abbrev pub sooner : List ℕ
sooner = Post 2 ++ W 0 ++ Post 0 ++ Await 1 ++ R 1

-- three posts, and a flag wait
abbrev pub third : List ℕ
third = Post 0 ++ Post 0 ++ Post 1 ++ Await 2

-- a post that follows the flag wait
abbrev pub later : List ℕ
later = W 0 ++ Post 0 ++ Await 1 ++ Post 1 ++ R 1

-- 2 semaphores, which start at 0, and 1 flag, which opens after one post
abbrev pub mixed : List ℕ → List ℕ
mixed l = kernel 1 2 1 0 (0 ∷ 0 ∷ []) (1 ∷ []) l

-- 1 semaphore, which starts at 1, and 1 flag, which opens after two posts
abbrev pub apart : List ℕ → List ℕ
apart l = kernel 1 1 1 0 (1 ∷ []) (2 ∷ []) l

pub record Flagged : Type 0 where
  -- the worked recordings
  pub one_post : Analyses (kernel 2 0 1 1 [] (1 ∷ []) once) 17 2 true []
  pub one_of_two : Analyses (after 1 either) 26 1 true (0 ∷ 4 ∷ 0 ∷ [])
  pub both_of_two : Analyses (after 2 either) 26 2 true []
  pub one_too_few : Refuses (kernel 2 0 1 0 [] (2 ∷ []) (Post 0 ++ Await 1)) 16 1
  -- a post before the write serves as well, and is what the recorded run follows: the pair is sure
  pub other_post : Analyses (after 1 sooner) 26 1 true (1 ∷ 4 ∷ 1 ∷ [])
  -- earlier posts alone count, on that flag; no post is used up
  pub no_post : Refuses (after 1 (Await 1)) 16 0
  pub posted_late : Refuses (after 1 (Await 1 ++ Post 0)) 16 0
  pub posted_on_another : Refuses (kernel 1 0 2 0 [] (1 ∷ 1 ∷ []) (of 7 0 1 ++ of 8 0 0)) 16 1
  pub awaited_twice : Accepts (after 1 (Post 0 ++ Await 1 ++ Await 2 ++ Await 1))
  pub stays_open : Raises (after 1 (Post 0 ++ Await 1 ++ Await 2)) 10 2 true (three 1 0 0 ∷ three 1 1 0 ∷ three 1 0 1 ∷ [])
  -- the second least of three; the recorded run follows the first two
  pub second_least : Raises (after 2 third) 17 2 true (three 1 0 0 ∷ three 2 0 0 ∷ three 0 1 0 ∷ three 1 0 1 ∷ [])
  pub first_two : Records (after 2 third) (three 1 0 0 ∷ three 2 0 0 ∷ three 0 1 0 ∷ three 2 0 1 ∷ [])
  -- a post that follows the flag wait is no candidate
  pub later_post : Analyses (after 1 later) 26 2 true []
  pub later_post_raised : Raises (after 1 later) 26 2 true (three 1 0 0 ∷ three 2 0 0 ∷ three 2 1 0 ∷ three 2 2 0 ∷ three 2 3 0 ∷ [])
  -- the low byte counts semaphores and the high byte flags; signals serve waits, and posts flag waits
  pub both_named : Accepts (mixed (of 1 0 1 ++ of 2 0 1 ++ Post 0 ++ Await 0))
  pub signal_2 : Refuses (mixed (of 1 0 2)) 6 0
  pub wait_2 : Refuses (mixed (of 2 0 2)) 6 0
  pub post_1 : Refuses (mixed (of 7 0 1)) 6 0
  pub flag_wait_1 : Refuses (mixed (of 8 0 1)) 6 0
  pub signal_for_flag : Refuses (mixed (S 0 ++ Await 0)) 16 1
  pub post_for_semaphore : Refuses (mixed (Post 0 ++ P 0)) 8 1
  -- the start bytes come first, and each flag has its own post count
  pub starts_at_1 : Accepts (apart (P 0 ++ Post 0 ++ Post 0 ++ Await 0))
  pub starts_no_higher : Refuses (apart (P 0 ++ P 0)) 8 1
  pub opens_no_sooner : Refuses (apart (Post 0 ++ Await 0)) 16 1
  pub own_count : Accepts (kernel 1 0 2 0 [] (2 ∷ 1 ∷ []) (of 7 0 1 ++ of 8 0 1))
  pub other_count : Refuses (kernel 1 0 2 0 [] (2 ∷ 1 ∷ []) (of 7 0 0 ++ of 8 0 0)) 16 1
  -- 64 semaphores and 64 flags, and one more of each
  pub flags_64 : Accepts (kernel 1 64 64 0 (replicate 64 0) (replicate 64 255) [])
  pub flags_65 : Refuses (kernel 1 0 65 0 [] (replicate 65 1) []) 4 0
  pub semaphores_65 : Refuses (kernel 1 65 0 0 (replicate 65 1) [] []) 4 0
  -- a post count is 1 to 255: 4 after 3, and before a faulty record
  pub count_0 : Refuses (kernel 1 0 1 0 [] (0 ∷ []) []) 4 0
  pub second_count_0 : Refuses (kernel 1 0 2 0 [] (1 ∷ 0 ∷ []) []) 4 0
  pub count_255 : Accepts (kernel 1 0 1 0 [] (255 ∷ []) (Post 0))
  pub extent_before_count : Refuses (kernel 1 0 2 0 [] (0 ∷ []) []) 3 0
  pub count_before_record : Refuses (kernel 1 0 1 0 [] (0 ∷ []) (of 0 0 0)) 4 0
  -- the post bytes in the extent: one missing, one too many; with no flag there is none
  pub posts_missing : Refuses (kernel 1 1 2 0 (1 ∷ []) (1 ∷ []) []) 3 0
  pub posts_more : Refuses (kernel 1 1 1 0 (1 ∷ []) (1 ∷ 1 ∷ []) []) 3 0
  pub no_flag : Accepts (kernel 1 1 0 0 (1 ∷ []) [] (P 0))
  pub nothing : Accepts (trailer 0 0 1 0 0 3)
  -- in editions 1 and 2 the whole field counts semaphores
  pub field_edition_1 : Refuses (file 1 257 0 []) 4 0
  pub field_edition_2 : Refuses (pool 1 257 0 (1 ∷ 1 ∷ []) []) 3 0
  -- editions are 1 to 3, and the kinds 7 and 8 are of edition 3
  pub edition_4 : Refuses (trailer 0 0 1 0 0 4) 2 0
  pub kind_7_edition_1 : Refuses (file 1 1 1 (Post 0)) 5 0
  pub kind_8_edition_1 : Refuses (file 1 1 1 (Await 0)) 5 0
  pub kind_7_edition_2 : Refuses (pool 1 1 1 (1 ∷ []) (Post 0)) 5 0
  pub kind_8_edition_2 : Refuses (pool 1 1 1 (1 ∷ []) (Await 0)) 5 0
  pub kind_0 : Refuses (mixed (of 0 0 0)) 5 0
  -- where two apply: 6, 7 and 16 of one record, and the first faulty record
  pub name_before_flag : Refuses (after 1 (of 8 3 0)) 6 0
  pub life_before_flag : Refuses (after 1 (Fork 0 1 ++ Join 0 1 ++ Await 1)) 7 2
  pub first_record : Refuses (after 1 (Await 0 ++ of 0 0 0)) 16 0
