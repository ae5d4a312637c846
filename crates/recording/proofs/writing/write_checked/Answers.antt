-- `recording::writing::write_checked` meets its contract. The check passes and the file is written, or it fails and nothing is. Assumes nothing.
use native.Mathlib.Omega.{arith}
use Rattle.std.specs.Prelude.{Ok}
use mathlib.Core.Path.{◌≡◌, sym, ◌∙◌}
use Rattle.recording.specs.Filing.{filing_check}
use Rattle.model.proofs.Checks.{handed_on}
use Rattle.recording.proofs.Outputs.{fits}
use Rattle.recording.proofs.writing.write_checked.Goals as goal
use Rattle.recording.proofs.writing.write_checked.Goals.{In_ok-filing_check}

passes : (c : In_ok-filing_check) → filing_check c.args.records.now c.args.counts c.args.levels.now c.args.out.now ≡ Ok tt
passes c = sym c.filing_check.ensures ∙ c.in_ok-filing_check.was

pub put_file-requires : goal.put_file-requires
put_file-requires c =
    fits _ _ _ _ (passes (goal.at.put_file-requires c).In_ok-filing_check)

pub overflow_add-result : goal.overflow_add-result
overflow_add-result c =
    omega (arith, fits _ _ _ _ (passes (goal.at.overflow_add-result c).In_ok-filing_check))

pub returns : goal.returns
returns c =
    let p = passes (goal.at.returns c).In_ok-filing_check in record { value = rw p; out_after = rw p c.put_file.ensures }

pub returns-in_err-filing_check : goal.returns-in_err-filing_check
returns-in_err-filing_check c =
    let p = sym c.filing_check.ensures ∙ c.in_err-filing_check.was in record { value = rw p (handed_on _ _ c.from_residual.ensures); out_after = rw p }
