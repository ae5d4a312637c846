-- ask_read meets its contract: what the checks answer, and where they pass how the two events stand. Assumes nothing.
use native.Mathlib.Omega.{arith}
use mathlib.Core.Path.{sym, ◌∙◌}
use Rattle.model.proofs.Checks.{handed_on}
use Rattle.work.specs.Lent.{Ready}
use Rattle.work.proofs.Accepted.{parts_ready}
use Rattle.work.proofs.Questions.{asked_passed}
use Rattle.analysis.proofs.Cases.{refused, answered}
use Rattle.analysis.proofs.ask_read.Goals as goal
use Rattle.analysis.proofs.ask_read.Goals.{After-of-parts}

-- acceptance makes the parts ready
the-ready : (t : After-of-parts) → Ready t.of-parts.result.records.now t.of-parts.result.counts
the-ready t =
    let p = t.of-parts.ensures in parts_ready _ _ t.requires _ p.records_value _ p.counts_value _ p.levels_value

pub positions-positions-requires : goal.positions-positions-requires
positions-positions-requires c =
    let r = (the-ready (goal.at.positions-positions-requires c).After-of-parts).records in omega (arith, r.whole, r.few)

pub invariant_of-ready-clause-ready : goal.invariant_of-ready-clause-ready
invariant_of-ready-clause-ready c =
    the-ready (goal.at.invariant_of-ready-clause-ready c).After-of-parts

pub relate-requires : goal.relate-requires
relate-requires c =
    let passed = asked_passed _ _ _ _ _ _ (sym c.fill_asked.ensures.value ∙ c.in_ok-fill_asked.was) in
    (omega (arith, passed.1, c.fill_asked.auto.work), passed.0.0, passed.0.1)

pub returns : goal.returns
returns c =
    let a = c.args in
    let p = c.of-parts.ensures in
    let f = c.fill_asked.ensures in
    answered a.file.now a.trailer c.requires _ p.records_value _ p.counts_value _ p.levels_value a.budget a.work.now a.a a.b
    _ _ (f.value, f.work_after) c.in_ok-fill_asked.was _ c.relate.ensures

pub returns-in_err-fill_asked : goal.returns-in_err-fill_asked
returns-in_err-fill_asked c =
    let a = c.args in
    let p = c.of-parts.ensures in
    let f = c.fill_asked.ensures in
    rw (handed_on _ _ c.from_residual.ensures) (refused a.file.now a.trailer c.requires _ p.records_value _ p.counts_value _ p.levels_value a.budget a.work.now a.a a.b
    _ _ (f.value, f.work_after) _ c.in_err-fill_asked.was)
