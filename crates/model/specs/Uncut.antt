-- The program's report is never cut off.
-- Assumes nothing.
use Rattle.std.specs.Prelude.{ℕ, ◌≤◌, ◌≡◌, List, length, take}
use Rattle.model.specs.Report.{report_of, laid, filling}

-- the program's list has so many numbers, for 8,192 entries
abbrev pub list_numbers : ℕ
list_numbers = 24576

-- and its output so many bytes
abbrev pub out_bytes : ℕ
out_bytes = 262144

-- proved as `uncut` in proofs/Uncut.antt
pub record Uncut : Type 0 where
  -- with the program's list lent, the report of any file fits in the program's output
  pub fits : (f work list : List ℕ) → length list ≡ list_numbers → length (report_of f work list) ≤ out_bytes
  -- so that what is printed of the output, the part that the report fills, is the report
  pub whole : (f work list out : List ℕ) → length list ≡ list_numbers → length out ≡ out_bytes
      → let r = report_of f work list in take (filling r out) (laid r out) ≡ r
