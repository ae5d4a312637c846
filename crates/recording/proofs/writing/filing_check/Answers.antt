-- `recording::writing::filing_check` meets its contract. Each return cites the law of the test that led to it. Assumes nothing.
use native.Mathlib.Omega.{arith}
use mathlib.Core.Path.{◌∙◌}
use Rattle.model.proofs.Checks.{handed_on}
use Rattle.recording.proofs.Outputs.{short, faulty, no_room, room}
use Rattle.recording.proofs.writing.filing_check.Goals as goal

pub first_fault-requires : goal.first_fault-requires
first_fault-requires c =
    (omega arith, c.requires.0)

pub returns-in_err-first_fault : goal.returns-in_err-first_fault
returns-in_err-first_fault c =
    handed_on _ _ c.from_residual.ensures ∙ faulty _ _ _ _ _ c.first_fault.ensures _ c.in_err-first_fault.was

-- what is in range is short, so that the sum does not wrap
pub overflow_add-records : goal.overflow_add-records
overflow_add-records c =
    omega (arith, c.requires.1, short c.args.records.now c.args.counts c.requires.0)

pub overflow_add-records-2 : goal.overflow_add-records-2
overflow_add-records-2 c =
    omega (arith, c.requires.1, short c.args.records.now c.args.counts c.requires.0)

pub returns-then-out-records : goal.returns-then-out-records
returns-then-out-records c =
    no_room _ _ _ _ _ c.first_fault.ensures c.in_ok-first_fault.was c.if-out-records.true

pub returns : goal.returns
returns c =
    room _ _ _ _ _ c.first_fault.ensures c.in_ok-first_fault.was c.if-out-records.false
