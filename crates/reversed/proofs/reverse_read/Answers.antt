-- reverse_read meets its contract: what the checks answer, and where they pass what is written. Assumes nothing.
use native.Mathlib.Omega.{arith}
use mathlib.Core.Path.{refl, sym, ◌∙◌}
use Rattle.model.proofs.Checks.{handed_on}
use Rattle.work.specs.Lent.{Ready}
use Rattle.work.proofs.Accepted.{few_levels, parts_ready}
use Rattle.work.proofs.Questions.{asked_passed}
use Rattle.reversed.proofs.Answers.{refused, written_forward}
use Rattle.reversed.proofs.reverse_read.Goals as goal
use Rattle.reversed.proofs.reverse_read.Goals.{After-of-parts}

-- acceptance makes the parts ready
the-ready : (t : After-of-parts) → Ready t.of-parts.result.records.now t.of-parts.result.counts
the-ready t =
    let p = t.of-parts.ensures in parts_ready _ _ t.requires _ p.records_value _ p.counts_value _ p.levels_value

pub positions-positions-requires : goal.positions-positions-requires
positions-positions-requires c =
    let r = (the-ready (goal.at.positions-positions-requires c).After-of-parts).records in omega (arith, r.whole, r.few)

pub invariant_of-ready-clause-ready : goal.invariant_of-ready-clause-ready
invariant_of-ready-clause-ready c =
    the-ready (goal.at.invariant_of-ready-clause-ready c).After-of-parts

pub recorded-recorded-requires : goal.recorded-recorded-requires
recorded-recorded-requires c =
    let passed = asked_passed _ _ _ _ _ _ (sym c.fill_asked.ensures.value ∙ c.in_ok-fill_asked.was) in
    omega (arith, passed.1, c.fill_asked.auto.work)

pub write_forward-requires-clause-levels : goal.write_forward-requires-clause-levels
write_forward-requires-clause-levels c =
    few_levels c.args.file.now c.args.trailer c.requires _ c.of-parts.ensures.records_value _ c.of-parts.ensures.levels_value

pub write_forward-requires-clause-numbered : goal.write_forward-requires-clause-numbered
write_forward-requires-clause-numbered c =
    let passed = asked_passed _ _ _ _ _ _ (sym c.fill_asked.ensures.value ∙ c.in_ok-fill_asked.was) in
    rw c.recorded-recorded.ensures.records (passed.0)

pub returns : goal.returns
returns c =
    let a = c.args in
    let p = c.of-parts.ensures in
    let r = c.recorded-recorded.ensures in
    let f = c.fill_asked.ensures in
    let w = rw (r.vectors, r.records, r.counts) at c.write_forward.ensures in
    written_forward a.file.now a.chosen a.other a.work.now a.out.now a.trailer c.requires _ p.records_value _ p.counts_value _ p.levels_value
    _ _ (f.value, f.work_after) c.in_ok-fill_asked.was _ refl _ _ (w.value, w.out_after)

pub returns-in_err-fill_asked : goal.returns-in_err-fill_asked
returns-in_err-fill_asked c =
    let a = c.args in
    let p = c.of-parts.ensures in
    let f = c.fill_asked.ensures in
    rw (handed_on _ _ c.from_residual.ensures) (refused a.file.now a.chosen a.other a.work.now a.out.now a.trailer c.requires _ p.records_value _ p.counts_value _ p.levels_value
    _ _ (f.value, f.work_after) _ c.in_err-fill_asked.was)
