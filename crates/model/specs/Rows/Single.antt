-- Single-instruction accesses (document 02, No. 8): what is listed of two updates of a tally, and in which files such accesses stand.
-- Each row computes the whole way from a file's bytes. Proved as `single` in proofs/Rows.antt. Assumes nothing.
use Rattle.std.specs.Prelude.{ℕ, ◌≡◌, true, List, [], ◌∷◌, ◌++◌, Ok}
use Rattle.model.specs.Writing.{written_of}
use Rattle.model.specs.Rows.Starred.{of, W, R, file, Analyses, Accepts, RefusedAs, Refuses}
use Rattle.model.specs.Rows.Started.{pool}
use Rattle.model.specs.Rows.Flagged.{counted, kernel}
use Rattle.model.specs.Rows.Table.{lent, edited}

-- task t reads, writes cell 0 by a single instruction
abbrev pub SR : ℕ → List ℕ
SR t = of 9 t 0

abbrev pub SW : ℕ → List ℕ
SW t = of 10 t 0

-- a file of edition 3 with 3 tasks and 1 cell
abbrev pub cell : List ℕ → List ℕ
cell l = kernel 3 0 0 1 [] [] l

pub record Single : Type 0 where
  -- two such accesses do not conflict: nothing orders the two, and they are off the list
  pub both_write : Analyses (cell (SW 0 ++ SW 1)) 5 1 true []
  pub one_writes : Analyses (cell (SW 0 ++ SR 1)) 5 1 true []
  -- against a plain access they count as read and write
  pub write_plain_read : Analyses (cell (SW 0 ++ R 1)) 5 1 true (0 ∷ 1 ∷ 1 ∷ [])
  pub write_plain_write : Analyses (cell (SW 0 ++ W 1)) 5 1 true (0 ∷ 1 ∷ 1 ∷ [])
  pub read_plain_write : Analyses (cell (SR 0 ++ W 1)) 5 1 true (0 ∷ 1 ∷ 1 ∷ [])
  pub read_plain_read : Analyses (cell (SR 0 ++ R 1)) 5 1 true []
  pub among_three : Analyses (cell (SW 0 ++ SW 1 ++ W 2)) 10 1 true (0 ∷ 2 ∷ 1 ∷ 1 ∷ 2 ∷ 1 ∷ [])
  -- the kinds 9 and 10 are of edition 3, which has no further one
  pub kinds : Accepts (cell (SR 0 ++ SW 0))
  pub kind_9_edition_1 : Refuses (file 1 1 1 (SR 0)) 5 0
  pub kind_10_edition_1 : Refuses (file 1 1 1 (SW 0)) 5 0
  pub kind_9_edition_2 : Refuses (pool 1 1 1 (1 ∷ []) (SR 0)) 5 0
  pub kind_10_edition_2 : Refuses (pool 1 1 1 (1 ∷ []) (SW 0)) 5 0
  pub kind_11 : Refuses (cell (of 11 0 0)) 5 0
  pub kind_10_written : written_of (SW 0) (counted 1 0 0 1) [] [] (lent 20) ≡ Ok 20
  pub kind_10_edition_2_written : RefusedAs (written_of (SW 0) (edited 2) (lent 2) [] (lent 22)) 5 0 0
  pub kind_11_written : RefusedAs (written_of (of 11 0 0) (counted 1 0 0 1) [] [] (lent 20)) 5 0 0
  -- their object is a cell
  pub cell_1_read : Refuses (cell (of 9 0 1)) 6 0
  pub cell_1_written : Refuses (cell (of 10 0 1)) 6 0
