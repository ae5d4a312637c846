-- `layout::put_picked` meets its contract. The picked records stand at the front, and the end of the file behind them. Assumes nothing.
use Prim.Native.Nat.{◌*◌}
use lib.ListN.{length}
use Rattle.model.specs.Writing.{records_in}
use Rattle.model.proofs.Picking.{in_length}
use Rattle.layout.proofs.Copies.{filed}
use Rattle.layout.proofs.put_picked.Goals as goal

pub returns : goal.returns
returns c =
    let a = c.args in
    let s = a.records.now in
    let o = a.order.now in
    filed (records_in s o) a.out.now c.put_records.new.out (4 * length o) (in_length s o) c.put_records.ensures
    a.counts a.levels.now _ c.put_end.ensures
