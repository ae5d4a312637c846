-- `events::put_task` meets its contract: put so far are the events that were yielded. Assumes nothing.
use mathlib.Core.Path.{◌≡◌, ap, ◌∙◌}
use mathlib.Core.List.{◌∷◌, []}
use Prim.Native.Nat.{◌/◌, ◌<◌}
use native.Mathlib.Omega.{arith}
use lib.ListN.{length, length-append}
use lib.Seq.{sets}
use Rattle.model.specs.Numbers.{picked}
use Rattle.model.proofs.Stores.{sets-append}
use Rattle.events.specs.Chains.{by_task}
use Rattle.model.specs.File.{events_of}
use Rattle.events.proofs.Laws.{events_length}
use Rattle.events.proofs.Links.{left, one_more, no_more}
use Rattle.events.proofs.put_task.Goals as goal
use Rattle.events.proofs.put_task.Goals.{After-into_iter-e-iterator, In-Some}

-- the walk goes over the task's events
whole : (c : After-into_iter-e-iterator) → left c.into_iter-e-iterator.result ≡ picked (by_task c.args.records.now c.args.task) (length (events_of c.args.records.now))
whole c =
    ap left c.into_iter-e-iterator.ensures.into_iter_gives ∙ c.task_events-e-items.ensures

next_one : (c : In-Some) → (c.loop-e.next < 1024) × (c.in-Some.e < length c.args.records.now / 4)
next_one c =
    let k = c.loop-e in
    let n = length (events_of c.args.records.now) in
    let t = one_more (by_task c.args.records.now c.args.task) n _ (whole (goal.at.In-Some c).After-into_iter-e-iterator) k.yielded _ k.yielded_by _ c.next.new.self c.next.ensures.steps c.in-Some.e c.in-Some.is in
    (omega (arith, t.0, k.invariant.next_is, c.requires.task_bound), omega (arith, t.1, events_length c.args.records.now))

pub overflow_cast-order : goal.overflow_cast-order
overflow_cast-order c =
    omega (arith, (next_one c).1, c.requires.chained.1)

pub bounds-order-next : goal.bounds-order-next
bounds-order-next c =
    (next_one (goal.at.bounds-order-next c).In-Some).0

pub offset_bounds-order-next : goal.offset_bounds-order-next
offset_bounds-order-next c =
    omega (arith, (next_one (goal.at.offset_bounds-order-next c).In-Some).0)

pub overflow_add-next : goal.overflow_add-next
overflow_add-next c =
    omega (arith, (next_one (goal.at.overflow_add-next c).In-Some).0)

pub loop-e-preserved : goal.loop-e-preserved
loop-e-preserved c =
    let k = c.loop-e in
    let e = c.in-Some.e in
    record {
      order_is = rw (sets-append k.yielded (e ∷ []) c.args.order.now c.args.at, ← k.invariant.order_is, ← k.invariant.next_is);
      next_is = omega (arith, k.invariant.next_is, length-append k.yielded (e ∷ []));
    }

pub returns : goal.returns
returns c =
    let k = c.loop-e in
    let a = c.args in
    let all = no_more (by_task a.records.now a.task) (length (events_of a.records.now)) _ (whole (goal.at.returns c).After-into_iter-e-iterator) k.yielded _ k.yielded_by _ c.next.new.self c.next.ensures.steps c.in-None.is in
    record { order_after = k.invariant.order_is ∙ ap (sets a.order.now a.at) all; value = omega (arith, k.invariant.next_is, ap length all) }
