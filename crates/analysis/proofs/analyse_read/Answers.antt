-- analyse_read meets its contract: each of its answers is one of the cases. Assumes nothing.
use mathlib.Core.Bool.{not}
use mathlib.Core.Path.{sym, ap, ◌∙◌}
use native.Mathlib.Omega.{arith}
use borrow.Author.Tests.{not-true, not-false}
use Rattle.work.specs.Lent.{Ready}
use Rattle.work.proofs.Accepted.{parts_ready}
use Rattle.analysis.proofs.Cases.{no_records, short_work, ended, short_list}
use Rattle.analysis.proofs.analyse_read.Goals as goal
use Rattle.analysis.proofs.analyse_read.Goals.{After-of-parts}

pub returns-then-trailer-eq0 : goal.returns-then-trailer-eq0
returns-then-trailer-eq0 c =
    no_records c.args.file.now c.args.trailer c.requires c.if-trailer-eq0.true _ _ _ _ c.analyse_none.ensures

-- acceptance makes the parts ready
the-ready : (t : After-of-parts) → Ready t.of-parts.result.records.now t.of-parts.result.counts
the-ready t =
    let p = t.of-parts.ensures in parts_ready _ _ t.requires _ p.records_value _ p.counts_value _ p.levels_value

pub work_fits-requires : goal.work_fits-requires
work_fits-requires c =
    the-ready (goal.at.work_fits-requires c).After-of-parts

pub positions-positions-requires : goal.positions-positions-requires
positions-positions-requires c =
    let r = (the-ready (goal.at.positions-positions-requires c).After-of-parts).records in omega (arith, r.whole, r.few)

pub invariant_of-ready-clause-ready : goal.invariant_of-ready-clause-ready
invariant_of-ready-clause-ready c =
    the-ready (goal.at.invariant_of-ready-clause-ready c).After-of-parts

pub returns-then-not-work_fits : goal.returns-then-not-work_fits
returns-then-not-work_fits c =
    let p = c.of-parts.ensures in
    short_work c.args.file.now c.args.trailer c.requires _ p.records_value _ p.counts_value _ p.levels_value _ _ _
    (sym c.work_fits.ensures ∙ not-true _ (ap not c.if-not-work_fits.true))

pub returns-in-Ok : goal.returns-in-Ok
returns-in-Ok c =
    let a = c.args in
    let p = c.of-parts.ensures in
    let made = c.fill-made.ensures in
    ended a.file.now a.trailer c.requires _ p.records_value _ p.counts_value _ p.levels_value a.budget a.work.now
    (sym c.work_fits.ensures ∙ not-false _ (ap not c.if-not-work_fits.false)) _ made.work_after _ _ _ _ _ made.passes_value.0 made.passes_value.1 c.in-Ok.ensures

pub returns-in-Err : goal.returns-in-Err
returns-in-Err c =
    let a = c.args in
    let p = c.of-parts.ensures in
    let made = c.fill-made.ensures in
    short_list a.file.now a.trailer c.requires _ p.records_value _ p.counts_value _ p.levels_value a.budget a.work.now
    (sym c.work_fits.ensures ∙ not-false _ (ap not c.if-not-work_fits.false)) _ made.work_after _ _ _ c.in-Err.ensures
