-- settle meets its contract: the budget is N × N + 1. Assumes nothing.
use mathlib.Core.Path.{ap, ◌∙◌}
use Prim.Native.Nat.{ℕ}
use Rattle.model.specs.Analysing.{filled}
use Rattle.work.specs.Ready.{recording_of}
use Rattle.work.proofs.Accepted.{ready_budget}
use Rattle.together.proofs.settle.Goals as goal

pub returns : goal.returns
returns c =
    let r = c.args.ready.now in
    c.fill.ensures.work_after
    ∙ ap (λ (k : ℕ). filled (recording_of r) k c.args.work.now) (c.budget_of-budget.ensures ∙ ready_budget r.records.now r.counts r.levels.now r.ready)
