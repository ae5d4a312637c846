-- `events::task_order` meets its contract: put so far are the events of the tasks below `task`. Assumes nothing.
use mathlib.Core.Path.{◌≡◌, refl, sym}
use Prim.Native.Nat.{ℕ}
use native.Mathlib.Omega.{arith}
use lib.ListN.{replicate, length-replicate}
use Rattle.model.specs.Numbers.{each}
use Rattle.model.specs.File.{events_of}
use Rattle.events.proofs.Laws.{events_length}
use Rattle.events.proofs.Order.{task_room, task_next, whole_order}
use Rattle.events.proofs.task_order.Goals as goal

pub loop-task-init : goal.loop-task-init
unfolding each
loop-task-init c =
    record { chained = c.gather_tasks-chain.ensures; order_is = refl; at_is = refl }

pub put_task-at-requires-clause-task_bound : goal.put_task-at-requires-clause-task_bound
put_task-at-requires-clause-task_bound c =
    let k = c.loop-task in
    let l = events_of c.args.records.now in
    omega (arith, k.invariant.at_is, task_room l c.args.tasks c.requires.2 k.task (omega arith), events_length c.args.records.now, c.requires.0)

pub loop-task-preserved : goal.loop-task-preserved
loop-task-preserved c =
    let k = c.loop-task in
    let l = events_of c.args.records.now in
    let (put, next) = task_next l k.task (replicate 1024 0) _ _ _ _ k.invariant.order_is k.invariant.at_is c.put_task-at.ensures.order_after c.put_task-at.ensures.value in
    record { chained = k.invariant.chained; order_is = put; at_is = next }

pub returns : goal.returns
returns c =
    let k = c.loop-task in
    let n = events_length c.args.records.now in
    let t : k.task ≡ c.args.tasks = omega arith in
    rw (sym n)
    (whole_order (events_of c.args.records.now) c.args.tasks c.requires.2 (replicate 1024 0) k.order (omega (arith, n, c.requires.0, length-replicate {A = ℕ} 1024 0)) (rw t at k.invariant.order_is))
