-- pass meets its contract: the events below e have had their turn.
-- Assumes nothing.
use mathlib.Core.Path.{◌≡◌}
use native.Mathlib.Omega.{arith}
use Rattle.model.specs.Recording.{size}
use Rattle.vectors.proofs.Rising.{rose_none, rose_then}
use Rattle.passes.proofs.Runs.{pass_start, pass_next, pass_end}
use Rattle.passes.proofs.Stamps.{known_pass}
use Rattle.passes.specs.Lookups.{recording_of, vectors_over}
use Rattle.passes.proofs.lent.Lookups.pass.Goals as goal

pub loop-e-init : goal.loop-e-init
loop-e-init c =
    (pass_start _ _, rose_none _, c.requires.timed.1)

pub loop-e-preserved : goal.loop-e-preserved
loop-e-preserved c =
    let a = c.args in
    let k = c.loop-e in
    let f = c.turn-rose in (
      pass_next (recording_of a.self.now) (vectors_over a.self.now a.v.now) _ _ k.e k.invariant.0 f.ensures.becomes,
      rose_then k.invariant.1 f.ensures.rose,
      f.ensures.known_in,
    )

pub returns : goal.returns
returns c =
    let a = c.args in
    let k = c.loop-e in
    let E = recording_of a.self.now in
    let records = c.args.self.now.prepared.placed.records in
    let q : k.e ≡ size E = omega (arith, records.whole) in
    record { becomes = pass_end E (vectors_over a.self.now a.v.now) _ k.e q k.invariant.0; rose = k.invariant.1; known_in = known_pass E _ a.self.now.sources.now k.when a.base k.e q (omega (arith, records.few)) k.invariant.2 }
