-- Semaphores that start above zero (document 02, No. 1): the worked recordings, and files of edition 2 at their edges.
-- Each row computes the whole way from a file's bytes. Proved as `started` in proofs/Starred.antt. Assumes nothing.
use Rattle.std.specs.Prelude.{ℕ, true, List, [], ◌∷◌, ◌++◌, replicate}
use Rattle.model.specs.Writing.{file_of}
use Rattle.model.specs.Rows.Starred.{of, W, R, S, P, Analyses, Accepts, Refuses}
use Rattle.model.specs.Rows.Faults.{trailer}
use Rattle.model.specs.Rows.Raised.{two, three, Records}

-- a file of edition 2 with t tasks, s semaphores and c cells, and the start bytes b
abbrev pub pool : ℕ → ℕ → ℕ → List ℕ → List ℕ → List ℕ
pool t s c b l = file_of l (record { tasks = t; semaphores = s; cells = c; edition = 2 }) b

-- a signal and a wait between a write and a read, the semaphore starting at n
abbrev pub once : ℕ → List ℕ
once n = pool 2 1 1 (n ∷ []) (W 0 ++ S 0 ++ P 1 ++ R 1)

-- the same with two waits, starting at 1
abbrev pub twice : List ℕ
twice = pool 2 1 1 (1 ∷ []) (W 0 ++ S 0 ++ P 1 ++ P 1 ++ R 1)

-- two signals and two waits, starting at 1
abbrev pub either : List ℕ
either = pool 3 1 1 (1 ∷ []) (W 0 ++ S 0 ++ S 1 ++ P 2 ++ P 2 ++ R 2)

pub record Started : Type 0 where
  pub served_by_signal : Analyses (once 0) 17 2 true []
  pub served_by_start : Analyses (once 1) 17 1 true (0 ∷ 3 ∷ 1 ∷ [])
  pub second_wait : Analyses twice 26 2 true []
  pub one_of_two : Analyses either 37 1 true (0 ∷ 5 ∷ 0 ∷ [])
  pub as_many : Accepts (pool 1 1 0 (1 ∷ []) (P 0))
  pub one_more : Refuses (pool 1 1 0 (1 ∷ []) (P 0 ++ P 0)) 8 1
  -- the first wait has no signal, and the second the first signal
  pub second_wait_recorded : Records twice (two 1 0 ∷ two 2 0 ∷ two 0 1 ∷ two 2 2 ∷ two 2 3 ∷ [])
  pub one_of_two_recorded : Records either (three 1 0 0 ∷ three 2 0 0 ∷ three 0 1 0 ∷ three 0 0 1 ∷ three 2 0 2 ∷ three 2 0 3 ∷ [])
  -- each semaphore has its own start count
  pub own_count : Accepts (pool 1 2 0 (0 ∷ 1 ∷ []) (of 2 0 1))
  pub other_count : Refuses (pool 1 2 0 (0 ∷ 1 ∷ []) (of 2 0 0)) 8 0
  pub count_255 : Accepts (pool 1 1 0 (255 ∷ []) (P 0))
  -- editions, and the start bytes in the extent: one missing, one too many, any in edition 1
  pub edition_0 : Refuses (trailer 0 0 1 0 0 0) 2 0
  pub no_semaphore : Accepts (trailer 0 0 1 0 0 2)
  pub starts_missing : Refuses (1 ∷ trailer 0 0 1 2 0 2) 3 0
  pub starts_more : Refuses (1 ∷ 1 ∷ 1 ∷ trailer 0 0 1 2 0 2) 3 0
  pub starts_edition_1 : Refuses (1 ∷ trailer 0 0 1 1 0 1) 3 0
  pub semaphores_64 : Accepts (pool 1 64 0 (replicate 64 255) [])
  pub semaphores_65 : Refuses (pool 1 65 0 (replicate 65 255) []) 4 0
  -- start 4,294,967,295 and 1 semaphore would meet the length if they wrapped in 32 bits
  pub wraps : Refuses (255 ∷ 255 ∷ 255 ∷ 255 ∷ 0 ∷ 0 ∷ 0 ∷ 0 ∷ 1 ∷ 0 ∷ 1 ∷ 0 ∷ 0 ∷ 0 ∷ 2 ∷ 0 ∷ []) 3 0
