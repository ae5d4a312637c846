-- passes meets its contract: so far as many passes were made as are counted, and none of them was quiet.
-- Assumes nothing.
use mathlib.Core.Bool.{not}
use mathlib.Core.Path.{◌≡◌, sym, ap, ◌∙◌}
use native.Mathlib.Omega.{arith}
use Rattle.model.specs.Recording.{size}
use Rattle.model.specs.Vectors.{start}
use Rattle.model.proofs.Climb.{start_shaped}
use Rattle.vectors.specs.Rows.{chunks}
use Rattle.vectors.proofs.Chunks.{chunks_flat}
use Rattle.passes.proofs.Runs.{quiet, made_none, made_more, made_quiet, made_spent, numbers_of}
use Rattle.passes.proofs.Stamps.{known_first}
use Rattle.passes.specs.Lookups.{recording_of}
use Rattle.passes.proofs.lent.Lookups.passes.Goals as goal

pub loop-made-init : goal.loop-made-init
loop-made-init c =
    let a = c.args in
    let E = recording_of a.self.now in (
      made_none E _ (ap (chunks (size E) a.self.now.counts.tasks) c.requires.v_value ∙ chunks_flat (size E) a.self.now.counts.tasks (start E) (start_shaped E)),
      omega arith,
      known_first E _ a.self.now.sources.now c.args.self.now.prepared.placed.records.few (omega arith),
    )

pub returns-then-not-changed : goal.returns-then-not-changed
returns-then-not-changed c =
    let a = c.args in
    let k = c.loop-made in
    let f = c.pass-changed in
    let E = recording_of a.self.now in
    let l = f.new.v in
    let h = f.auto.v ∙ (k.auto.v ∙ c.requires.fitting) in
    let q = quiet (size E) a.self.now.counts.tasks k.v l f.result (k.auto.v ∙ c.requires.fitting) h f.ensures.rose in
    let r = made_quiet E k.made _ _ k.invariant.0 f.ensures.becomes a.budget (omega arith) (q ∙ ap not c.if-not-changed.true) in
    record { passes_value = r.0; settled_value = r.1; v_after = numbers_of (size E) a.self.now.counts.tasks l _ h r.2 }

pub loop-made-preserved : goal.loop-made-preserved
loop-made-preserved c =
    let a = c.args in
    let k = c.loop-made in
    let f = c.pass-changed in
    let E = recording_of a.self.now in
    let h = f.auto.v ∙ (k.auto.v ∙ c.requires.fitting) in
    let q = quiet (size E) a.self.now.counts.tasks k.v f.new.v f.result (k.auto.v ∙ c.requires.fitting) h f.ensures.rose in
    (made_more E k.made _ _ k.invariant.0 f.ensures.becomes (q ∙ ap not c.if-not-changed.false), omega arith, f.ensures.known_in)

pub returns : goal.returns
returns c =
    let a = c.args in
    let k = c.loop-made in
    let E = recording_of a.self.now in
    let spent : k.made ≡ a.budget = omega arith in
    let r = made_spent E k.made a.budget _ k.invariant.0 (omega arith) in
    record { passes_value = sym spent ∙ r.0; settled_value = r.1; v_after = numbers_of (size E) a.self.now.counts.tasks k.v _ (k.auto.v ∙ c.requires.fitting) r.2 }
