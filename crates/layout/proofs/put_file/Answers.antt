-- `layout::put_file` meets its contract. The records are copied to the front, and the end of the file behind them. Assumes nothing.
use mathlib.Core.Path.{refl}
use native.Mathlib.Nat.{zero-add}
use lib.ListN.{length}
use Rattle.layout.proofs.Copies.{filed}
use Rattle.layout.proofs.put_file.Goals as goal

pub returns : goal.returns
returns c =
    let a = c.args in
    let p = rw (zero-add (length a.records.now)) at c.copy_at.ensures in
    filed a.records.now a.out.now c.copy_at.new.out (length a.records.now) refl p a.counts a.levels.now _
    c.put_end.ensures
