-- The starred recordings of document 01 (the entries as 02, No. 2 has them), as rows of one statement on the definitions, and
-- edge files as rows of another.
-- Each row computes the whole way from a file's bytes. Proved in proofs/Starred.antt. Assumes nothing.
use Rattle.std.specs.Prelude.{ℕ, ◌/◌, ◌≡◌, Bool, true, false, List, [], ◌∷◌, ◌++◌, length, replicate, Result, Ok, Err}
use Rattle.model.specs.declared.Refusal.{Refusal}
use Rattle.model.specs.Refusals.{number_of, record_of, pairs_of, differing_task, differing_position}
use Rattle.model.specs.File.{trailer_of}
use Rattle.model.specs.Reading.{reading_of}
use Rattle.model.specs.Analysing.{analysis_of, list_after_analysing, analysed}
use Rattle.model.specs.Writing.{file_of}

-- ---- recordings as record bytes

-- the record of kind k by task t on the object x
abbrev pub of : ℕ → ℕ → ℕ → List ℕ
of k t x = t ∷ k ∷ x ∷ 0 ∷ []

-- task t writes, reads cell 0; signals, waits on semaphore 0; forks, joins task x
abbrev pub W : ℕ → List ℕ
W t = of 6 t 0

abbrev pub R : ℕ → List ℕ
R t = of 5 t 0

abbrev pub S : ℕ → List ℕ
S t = of 1 t 0

abbrev pub P : ℕ → List ℕ
P t = of 2 t 0

abbrev pub Fork : ℕ → ℕ → List ℕ
Fork t x = of 3 t x

abbrev pub Join : ℕ → ℕ → List ℕ
Join t x = of 4 t x

-- a file of edition 1 with t tasks, s semaphores and c cells
abbrev pub file : ℕ → ℕ → ℕ → List ℕ → List ℕ
file t s c l = file_of l (record { tasks = t; semaphores = s; cells = c; edition = 1 }) []

abbrev pub A : List ℕ
A = file 2 1 1 (W 0 ++ S 0 ++ P 1 ++ R 1)

abbrev pub B : List ℕ
B = file 3 1 1 (W 0 ++ S 0 ++ S 1 ++ P 2 ++ R 2)

abbrev pub C : List ℕ
C = file 3 1 1 (S 1 ++ W 0 ++ S 0 ++ P 2 ++ R 2)

abbrev pub D : List ℕ
D = file 3 1 1 (W 0 ++ S 0 ++ S 1 ++ P 2 ++ P 2 ++ R 2)

abbrev pub E : List ℕ
E = file 4 1 1 (W 0 ++ S 0 ++ S 1 ++ P 2 ++ P 3 ++ R 3)

abbrev pub F : List ℕ
F = file 2 1 1 (W 1 ++ S 1 ++ P 0 ++ S 0 ++ R 0)

-- the printed file
abbrev pub G : List ℕ
G =
    0 ∷ 6 ∷ 0 ∷ 0 ∷ 0 ∷ 3 ∷ 1 ∷ 0 ∷ 1 ∷ 6 ∷ 0 ∷ 0 ∷ 0 ∷ 5 ∷ 0 ∷ 0 ∷ 0 ∷ 4 ∷ 1 ∷ 0 ∷ 0 ∷ 6 ∷ 0 ∷ 0
    ∷ 0 ∷ 0 ∷ 0 ∷ 0 ∷ 6 ∷ 0 ∷ 0 ∷ 0 ∷ 2 ∷ 0 ∷ 0 ∷ 0 ∷ 1 ∷ 0 ∷ 1 ∷ 0 ∷ []

abbrev pub H : List ℕ
H = file 2 0 0 (Fork 0 1 ++ Join 0 1)

abbrev pub I : List ℕ
I = file 2 0 0 (Join 0 1)

abbrev pub J : List ℕ
J = file 1 1 0 (P 0)

-- ---- what is said of them

-- work memory that is long enough, and a list that has room for just these numbers
abbrev pub work : List ℕ
work = replicate 64 0

abbrev pub room : List ℕ → List ℕ
room l = replicate (length l) 0

-- analysing f with budget b lists just these entries
abbrev pub Lists : List ℕ → ℕ → List ℕ → Type 0
Lists f b l = list_after_analysing f b work (room l) ≡ l

-- and makes so many passes, settled or not
abbrev pub Analyses : List ℕ → ℕ → ℕ → Bool → List ℕ → Type 0
Analyses f b n s l = (analysis_of f b work (room l) ≡ analysed n s (length l / 3)) × Lists f b l

abbrev pub Accepts : List ℕ → Type 0
Accepts f = reading_of f ≡ Ok (trailer_of f)

-- an answer is a refusal with this number, this record and these pairs needed
abbrev pub RefusedAs : {A : Type 0} → Result A Refusal → ℕ → ℕ → ℕ → Type 0
RefusedAs answer n e p = (r : Refusal) × (answer ≡ Err r) × (number_of r ≡ n) × (record_of r ≡ e) × (pairs_of r ≡ p)

-- it is a refusal with this number, which is no record's fault and needs no pairs, and no task differs
abbrev pub RefusedAlone : {A : Type 0} → Result A Refusal → ℕ → Type 0
RefusedAlone answer n =
    (r : Refusal) × (answer ≡ Err r) × (number_of r ≡ n) × (record_of r ≡ 0) × (pairs_of r ≡ 0) × (differing_task r ≡ 0) × (differing_position r ≡ 0)

-- reading refuses f by this number at this record
abbrev pub Refuses : List ℕ → ℕ → ℕ → Type 0
Refuses f n e = RefusedAs (reading_of f) n e 0

pub record Starred : Type 0 where
  pub a_0 : Analyses A 0 0 false (0 ∷ 3 ∷ 0 ∷ [])
  pub a_1 : Analyses A 1 1 false []
  pub a_2 : Analyses A 2 2 true []
  pub b : Analyses B 26 1 true (0 ∷ 4 ∷ 0 ∷ [])
  pub c : Lists C 26 (1 ∷ 4 ∷ 1 ∷ [])
  pub d : Analyses D 37 2 true []
  pub e : Lists E 37 (0 ∷ 5 ∷ 1 ∷ [])
  pub f : Analyses F 26 2 true []
  pub g_0 : Analyses G 0 0 false (0 ∷ 2 ∷ 0 ∷ 3 ∷ 2 ∷ 1 ∷ 5 ∷ 2 ∷ 0 ∷ [])
  pub g_printed : Analyses G 37 2 true (3 ∷ 2 ∷ 1 ∷ [])
  pub h : Accepts H
  pub i : Refuses I 7 0
  pub j : Refuses J 8 0

-- ---- edge files

-- a trailer whose start and N would meet the length if they wrapped in 32 bits: 4,294,967,292 + 4 × 1
abbrev pub wrapping : List ℕ
wrapping = 252 ∷ 255 ∷ 255 ∷ 255 ∷ 1 ∷ 0 ∷ 0 ∷ 0 ∷ 1 ∷ 0 ∷ 0 ∷ 0 ∷ 0 ∷ 0 ∷ 1 ∷ 0 ∷ []

-- a trailer with N 4,294,967,295
abbrev pub garbage : List ℕ
garbage = 0 ∷ 0 ∷ 0 ∷ 0 ∷ 255 ∷ 255 ∷ 255 ∷ 255 ∷ 1 ∷ 0 ∷ 0 ∷ 0 ∷ 0 ∷ 0 ∷ 1 ∷ 0 ∷ []

pub record Edges : Type 0 where
  pub bytes_15 : Refuses (replicate 15 0) 1 0
  pub bytes_16 : Refuses (replicate 16 0) 2 0
  pub no_record : Accepts (file 1 0 0 [])
  pub no_task : Refuses (file 0 0 0 []) 4 0
  pub tasks_16 : Accepts (file 16 64 1024 [])
  pub tasks_17 : Refuses (file 17 64 1024 []) 4 0
  pub semaphores_65 : Refuses (file 16 65 1024 []) 4 0
  pub cells_1025 : Refuses (file 16 64 1025 []) 4 0
  -- records of kind 0, so 1,024 of them are refused by 5, and one more by 4
  pub records_1024 : Refuses (file 1 0 0 (replicate 4096 0)) 5 0
  pub records_1025 : Refuses (file 1 0 0 (replicate 4100 0)) 4 0
  pub wraps : Refuses wrapping 3 0
  pub garbage_n : Refuses garbage 3 0
