-- `events::gather_tasks` meets its contract: the chains are those of the events from e on. Assumes nothing.
use mathlib.Core.Path.{◌≡◌}
use Prim.Native.Nat.{◌+◌, ◌*◌, ◌-◌, ◌<◌}
use native.Mathlib.Omega.{arith}
use lib.ListN.{get_or}
use Rattle.model.specs.Recording.{event_in}
use Rattle.model.specs.File.{events_of}
use Rattle.events.proofs.Laws.{task_at}
use Rattle.events.proofs.Chains.{start, next_by}
use Rattle.events.proofs.gather_tasks.Goals as goal

pub loop-e-init : goal.loop-e-init
loop-e-init c =
    start _ _ _ (omega arith)

pub loop-e-preserved : goal.loop-e-preserved
loop-e-preserved c =
    let k = c.loop-e in
    let s = c.args.records.now in
    let byte : get_or s (4 * (k.e - 1)) 0 < 256 = omega (arith, c.type_inv.records (4 * (k.e - 1))) in
    let t = task_at s (k.e - 1) (omega arith) in
    let e : k.e ≡ k.e - 1 + 1 = omega arith in
    rw c.put_first.ensures (next_by (λ i. (event_in (events_of s) i).task) _ _ _ _ _ (rw e at k.invariant) t byte (omega arith) (omega arith) (omega arith))
