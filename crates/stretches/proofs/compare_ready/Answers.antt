-- compare_ready meets its contract: where the checks pass, the ends decide by the safe vectors. Assumes nothing.
use mathlib.Core.Bool.{true, not}
use mathlib.Core.List.{List}
use mathlib.Core.Path.{◌≡◌, sym, ap, ◌∙◌}
use Prim.Native.Nat.{ℕ}
use Rattle.std.specs.Prelude.{Ok}
use borrow.Author.Tests.{not-false}
use Rattle.model.specs.File.{events_of}
use Rattle.model.specs.Analysing.{work_fits}
use Rattle.passes.specs.Lookups.{vectors_of}
use Rattle.work.specs.Ready.{recording_of, safe_of}
use Rattle.work.proofs.Parts.{safe_filled}
use Rattle.stretches.specs.declared.Lead.{Lead}
use Rattle.stretches.specs.Stretches.{two_stretches, stretch_check}
use Rattle.stretches.specs.Lent.{lead_by_ends}
use Rattle.stretches.proofs.Answers.{lead_filled}
use Rattle.stretches.proofs.compare_ready.Goals as goal

pub returns-clause-value : goal.returns-clause-value
unfolding stretch_check
returns-clause-value c =
    let a = c.args in
    let E = recording_of a.ready.now in
    let two : two_stretches E a.one a.other ≡ true = sym c.two_stretches.ensures ∙ not-false _ (ap not c.if-not-two_stretches.false) in
    let fits : work_fits E a.work.now ≡ true = sym c.work_fits.ensures ∙ not-false _ (ap not c.if-not-work_fits.false) in
    let lent = c.safe-safe.ensures in
    let filled = lent.vectors ∙ ap (safe_of a.ready.now) c.fill.ensures.work_after ∙ safe_filled _ _ _ _ _ in
    rw (two, fits)
    (ap (λ (x : Lead). Ok x)
    (c.lead_by_ends.ensures
    ∙ ap (λ (s : List ℕ). lead_by_ends (events_of s) (vectors_of c.safe-safe.result) a.one a.other) lent.records
    ∙ lead_filled E a.budget a.one a.other two _ filled))
