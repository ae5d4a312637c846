-- bring_forward meets its contract: one side is put, and the other behind it. Assumes nothing.
use mathlib.Core.Path.{sym}
use native.Mathlib.Omega.{arith}
use Rattle.reversed.proofs.Sides.{side_room, both_sides}
use Rattle.reversed.proofs.bring_forward.Goals as goal

pub put_side-requires : goal.put_side-requires
put_side-requires c =
    let p = c.args.vectors.now in
    rw c.new-order.ensures (c.requires, omega (arith, p.placed.records.few, side_room p.records.now p.counts p.numbers.now c.args.x))

pub put_side-requires-2 : goal.put_side-requires-2
put_side-requires-2 c =
    let p = c.args.vectors.now in
    rw (c.put_side.ensures, c.new-order.ensures) (c.requires, omega (arith, p.placed.records.few, side_room p.records.now p.counts p.numbers.now c.args.x))

pub returns : goal.returns
returns c =
    let p = c.args.vectors.now in
    rw (c.put_side-2.ensures, c.put_side.ensures, c.new-order.ensures) (sym (both_sides p.records.now p.counts p.numbers.now c.args.x))
