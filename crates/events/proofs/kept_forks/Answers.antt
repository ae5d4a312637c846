-- `events::kept_forks` meets its contract: kept are the last forks among the first e events. Assumes nothing.
use mathlib.Core.Path.{◌≡◌, ◌∙◌}
use Prim.Native.Nat.{ℕ, ◌/◌}
use native.Mathlib.Omega.{arith}
use lib.ListN.{length, length-set, length-replicate}
use Rattle.model.specs.File.{events_of}
use Rattle.events.proofs.Laws.{events_length}
use Rattle.events.proofs.Kept.{forks_start, forks_same, forks_next}
use Rattle.events.proofs.kept_forks.Goals as goal
use Rattle.events.proofs.kept_forks.Goals.{then-v, else-v}

pub loop-e-init : goal.loop-e-init
loop-e-init c =
    let s = c.args.records.now in
    record { wide = length-replicate {A = ℕ} 256 (length s / 4); kept = forks_start (events_of s) (length s / 4) (events_length s) }

pub loop-e-preserved : goal.loop-e-preserved
loop-e-preserved c =
    let k = c.loop-e in
    let s = c.args.records.now in
    let v = c.event_at-v in
    let n = events_length s in
    elim c.if-v.branch [
      | then-v w ↦
          rw w.forks-is
          (record {
            wide = length-set k.forks v.result.object k.e ∙ k.invariant.wide;
            kept = forks_next (events_of s) k.e k.forks k.invariant.kept v.result v.ensures k.invariant.wide (omega arith) w.if-v.true;
          })
      | else-v w ↦ rw w.forks-is (record { wide = k.invariant.wide; kept = forks_same (events_of s) k.e k.forks k.invariant.kept v.result v.ensures w.if-v.false })
    ]

pub returns : goal.returns
returns c =
    let k = c.loop-e in
    let e : k.e ≡ length (events_of c.args.records.now) = omega (arith, events_length c.args.records.now) in
    rw e at k.invariant.kept
