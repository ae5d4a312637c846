-- put_side meets its contract: put so far are the events of this side below a. Assumes nothing.
use mathlib.Core.Path.{◌≡◌, sym, ap, ◌∙◌}
use mathlib.Core.Bool.{Bool, true}
use mathlib.Core.List.{append-nil}
use Prim.Native.Nat.{ℕ}
use native.Mathlib.Omega.{arith}
use lib.ListN.{length, length-append}
use Rattle.model.specs.Numbers.{picked}
use Rattle.model.specs.File.{events_of}
use Rattle.events.proofs.Order.{picked_room}
use Rattle.passes.proofs.Waits.{picked_start}
use Rattle.reversed.specs.Lent.{on_side_by}
use Rattle.reversed.proofs.Sides.{put_hit, put_miss}
use Rattle.reversed.proofs.put_side.Goals as goal
use Rattle.reversed.proofs.put_side.Goals.{then-on_side, else-on_side}

pub loop-a-init : goal.loop-a-init
loop-a-init c =
    rw (picked_start (on_side_by c.args.vectors.now c.args.x c.args.first), append-nil c.args.order.now.items)

pub push-requires : goal.push-requires
push-requires c =
    let r = c.args.vectors.now in
    let k = c.loop-a in
    let p : ℕ → Bool = on_side_by r c.args.x c.args.first in
    let passes : p k.a ≡ true = sym c.on_side.ensures ∙ c.if-on_side.true in
    let more = picked_room p k.a (length (events_of r.records.now)) (omega (arith, r.placed.records.whole)) passes in
    omega (arith, ap length k.invariant, length-append c.args.order.now.items (picked p k.a), more)

pub loop-a-preserved : goal.loop-a-preserved
loop-a-preserved c =
    let k = c.loop-a in
    let p = on_side_by c.args.vectors.now c.args.x c.args.first in
    let t = c.on_side.ensures in
    elim c.if-on_side.branch [
      | then-on_side w ↦ rw w.order-is (w.push.ensures.items ∙ put_hit p k.a c.args.order.now.items k.order.items k.invariant (sym t ∙ w.if-on_side.true))
      | else-on_side w ↦ rw w.order-is (put_miss p k.a c.args.order.now.items k.order.items k.invariant (sym t ∙ w.if-on_side.false))
    ]

pub returns : goal.returns
returns c =
    let r = c.args.vectors.now in
    let q : c.loop-a.a ≡ length (events_of r.records.now) = omega (arith, r.placed.records.whole) in
    rw q at c.loop-a.invariant
