-- record_all meets its contract: the recorded vectors of the events below e have been made, and their waits matched.
-- Assumes nothing.
use mathlib.Core.Path.{◌≡◌, ap, ◌∙◌}
use native.Mathlib.Omega.{arith}
use Rattle.model.specs.Recording.{size}
use Rattle.model.specs.Vectors.{flat, start}
use Rattle.model.proofs.Climb.{start_shaped}
use Rattle.vectors.proofs.Chunks.{chunks_flat}
use Rattle.model.proofs.Levels.{start_levels}
use Rattle.passes.specs.Lookups.{recording_of, vectors_over}
use Rattle.recorded.proofs.Matching.{start as first-match}
use Rattle.passes.proofs.Runs.{numbers_of}
use Rattle.recorded.proofs.Runs.{record_start, record_next, record_end}
use Rattle.recorded.proofs.record_all.Goals as goal

pub loop-e-init : goal.loop-e-init
loop-e-init c =
    let p = c.args.look.now in
    let f = c.start in
    let E = recording_of p in
    record {
      fitting = f.auto.v ∙ c.requires;
      made = record_start E _ (ap (vectors_over p) (f.ensures ∙ ap flat (start_levels p.records.now p.counts p.levels.now)) ∙ chunks_flat (size E) p.counts.tasks (start E) (start_shaped E));
      matched = first-match p.records.now E.levels _ p.prepared.linked;
    }

pub loop-e-preserved : goal.loop-e-preserved
loop-e-preserved c =
    let k = c.loop-e in
    let f = c.record_event in
    record {
      fitting = f.auto.v ∙ k.invariant.fitting;
      made = record_next (recording_of c.args.look.now) _ _ k.e k.invariant.made f.ensures.becomes;
      matched = f.ensures.cases;
    }

pub returns : goal.returns
returns c =
    let p = c.args.look.now in
    let k = c.loop-e in
    let E = recording_of p in
    let q : k.e ≡ size E = omega (arith, p.prepared.placed.records.whole) in
    numbers_of (size E) p.counts.tasks k.v _ k.invariant.fitting (record_end E _ k.e q k.invariant.made)
