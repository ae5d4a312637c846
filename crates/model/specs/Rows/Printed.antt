-- What the program prints (document 01, Two events, writing, printing), and a report in a lent output.
-- Proved as `printed` in proofs/Rows.antt. Assumes nothing.
use Rattle.std.specs.Prelude.{ℕ, ◌≡◌, List, [], ◌∷◌, ◌++◌, replicate}
use Prim.Native.String.{String}
use Rattle.model.specs.File.{recording_of}
use Rattle.model.specs.Passes.{budget_of}
use Rattle.model.specs.Text.{bytes, decimal}
use Rattle.model.specs.Report.{result_text, report_of, work_after_reporting, list_after_reporting, laid, filling}
use Rattle.model.specs.Rows.Starred.{of, W, P, file, A, B, G, I, J}
use Rattle.model.specs.Rows.Table.{lent}

-- the vectors of G once raised, which are the recorded ones too
abbrev pub G_raised : List ℕ
G_raised = 1 ∷ 0 ∷ 2 ∷ 0 ∷ 2 ∷ 1 ∷ 3 ∷ 0 ∷ 4 ∷ 1 ∷ 5 ∷ 1 ∷ []

-- the program, with 32,768 zeroed work numbers and a list of 8,192 entries, prints this text of a file
abbrev pub Prints : List ℕ → String → Type 0
Prints f text = report_of f (replicate 32768 0) (replicate 24576 0) ≡ bytes text

pub record Printed : Type 0 where
  pub g : Prints G "events 6 tasks 2 passes 2 settled yes pairs 1\ncell 0 3 2 sure\n"
  pub i : Prints I "refused 7 0\n"
  pub j : Prints J "refused 8 0\n"
  pub no_events : Prints (file 1 0 0 []) "events 0 tasks 1 passes 1 settled yes pairs 0\n"
  pub is_open : Prints B "events 5 tasks 3 passes 1 settled yes pairs 1\ncell 0 0 4 open\n"
  pub two_cells : Prints (file 2 0 2 (of 6 0 1 ++ of 6 1 1 ++ W 0 ++ W 1)) "events 4 tasks 2 passes 1 settled yes pairs 2\ncell 0 2 3 sure\ncell 1 0 1 sure\n"
  pub at_record : Prints (file 1 1 1 (W 0 ++ W 0 ++ P 0)) "refused 8 2\n"
  pub list_full : report_of G (lent 24) (lent 2) ≡ bytes "refused 10 0\n"
  pub budget : budget_of (recording_of G) ≡ 37
  pub unsettled : result_text (recording_of A) 0 ≡ bytes "events 4 tasks 2 passes 0 settled no pairs 1\ncell 0 0 3 open\n"
  -- up to 16,384 bytes; more is too long
  pub bytes_16384 : Prints (replicate 16384 0) "refused 2 0\n"
  pub bytes_16385 : Prints (replicate 16385 0) "too long\n"
  -- what is left in the work numbers and in the list
  pub work_left : work_after_reporting G (lent 25) ≡ G_raised ++ G_raised ++ lent 1
  pub list_left : list_after_reporting G (lent 24) (lent 4) ≡ 3 ∷ 2 ∷ 1 ∷ lent 1
  pub work_kept : work_after_reporting (replicate 16385 0) (lent 1) ≡ lent 1
  pub list_kept : list_after_reporting (replicate 16385 0) (lent 1) (lent 1) ≡ lent 1
  -- numbers in decimal
  pub zero : decimal 0 ≡ bytes "0"
  pub nine : decimal 9 ≡ bytes "9"
  pub ten : decimal 10 ≡ bytes "10"
  pub largest : decimal 18446744073709551615 ≡ bytes "18446744073709551615"
  -- the report of I in an output that is shorter than it, as long, and longer
  pub cut_off : laid (report_of I [] []) (lent 9) ≡ bytes "refused 7"
  pub fits : laid (report_of I [] []) (lent 12) ≡ bytes "refused 7 0\n"
  pub beyond : laid (report_of I [] []) (lent 14) ≡ bytes "refused 7 0\n" ++ lent 2
  pub fills_9 : filling (report_of I [] []) (lent 9) ≡ 9
  pub fills_12 : filling (report_of I [] []) (lent 14) ≡ 12
