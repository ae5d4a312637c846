-- `alike::counterparts` meets its contract. The invariant: of the events at the first i places of the first's task order the twins are
-- kept. Assumes nothing.
use mathlib.Core.Path.{◌≡◌}
use Prim.Native.Nat.{◌/◌, ◌<◌}
use native.Mathlib.Omega.{arith}
use lib.ListN.{length, get_or}
use Rattle.model.proofs.Files.{events_length}
use Rattle.alike.proofs.Places.{met_next, twins_at, all_met}
use Rattle.alike.proofs.counterparts.Goals as goal

pub bounds-kept-here : goal.bounds-kept-here
bounds-kept-here c =
    let twins = twins_at _ _ _ c.requires.by_index c.requires.tasked.0 _ c.task_order-here.ensures _ c.task_order-there.ensures _ c.loop-i-test.true in
    let small : get_or c.task_order-here.result c.loop-i.i 0 < 1024 = omega (arith, twins.left, events_length c.args.first.now, c.requires.first_len_bound.0) in
    small

pub loop-i-preserved : goal.loop-i-preserved
loop-i-preserved c =
    let twins = twins_at _ _ _ c.requires.by_index c.requires.tasked.0 _ c.task_order-here.ensures _ c.task_order-there.ensures _ c.loop-i-test.true in
    let small : get_or c.task_order-here.result c.loop-i.i 0 < 1024 = omega (arith, twins.left, events_length c.args.first.now, c.requires.first_len_bound.0) in
    met_next _ _ _ _ _ _ c.loop-i.invariant twins small

pub returns : goal.returns
returns c =
    let q : c.loop-i.i ≡ length c.args.first.now / 4 = omega arith in
    all_met _ _ _ c.requires.by_index c.requires.tasked.0 _ c.task_order-here.ensures _ (omega (arith, c.requires.first_len_bound.0))
    (rw q at c.loop-i.invariant)
