-- compare_read meets its contract: the checks of the recording are those of its file. Assumes nothing.
use mathlib.Core.Path.{ap₂, ◌∙◌}
use native.Mathlib.Omega.{arith}
use Rattle.model.specs.Refusals.{Check, after}
use Rattle.model.specs.Recording.{Recording}
use Rattle.model.specs.Analysing.{filled}
use Rattle.work.specs.Lent.{Ready}
use Rattle.work.proofs.Accepted.{parts_ready, parts_recording}
use Rattle.stretches.specs.Stretches.{compared_by, compared_of, work_after_comparing}
use Rattle.stretches.proofs.Answers.{of_file}
use Rattle.stretches.proofs.compare_read.Goals as goal
use Rattle.stretches.proofs.compare_read.Goals.{After-of-parts}

-- acceptance makes the parts ready
the-ready : (t : After-of-parts) → Ready t.of-parts.result.records.now t.of-parts.result.counts
the-ready t =
    let p = t.of-parts.ensures in parts_ready _ _ t.requires _ p.records_value _ p.counts_value _ p.levels_value

pub positions-positions-requires : goal.positions-positions-requires
positions-positions-requires c =
    let r = (the-ready (goal.at.positions-positions-requires c).After-of-parts).records in omega (arith, r.whole, r.few)

pub invariant_of-ready : goal.invariant_of-ready
invariant_of-ready c =
    record { ready = the-ready (goal.at.invariant_of-ready c).After-of-parts; placed = c.positions-positions.ensures }

pub returns : goal.returns
unfolding compared_of work_after_comparing
returns c =
    let a = c.args in
    let p = c.of-parts.ensures in
    let same = parts_recording _ _ c.requires _ p.records_value _ p.counts_value _ p.levels_value in
    let check = of_file a.file.now a.trailer c.requires _ same a.one a.other a.work.now in
    record {
      value = c.compare_ready.ensures.value ∙ ap₂ (λ (E : Recording) (k : Check). compared_by E a.one a.other a.budget k) same check;
      work_after = c.compare_ready.ensures.work_after ∙ ap₂ (λ (E : Recording) (k : Check). after k (λ _. filled E a.budget a.work.now) a.work.now) same check;
    }
