-- `layout::put_records` meets its contract. The invariant: the first i records of the order stand at the front, and the rest of the
-- output is as it was. Assumes nothing.
use native.Mathlib.Omega.{arith}
use Rattle.layout.proofs.Copies.{none_picked, next_picked}
use Rattle.layout.proofs.put_records.Goals as goal

pub loop-i-init : goal.loop-i-init
loop-i-init c =
    none_picked c.args.records.now c.args.out.now

pub loop-i-preserved : goal.loop-i-preserved
loop-i-preserved c =
    let a = c.args in
    let k = c.loop-i in
    next_picked a.records.now a.order.now a.out.now k.out _ k.i (omega arith) k.invariant c.put_record.ensures
