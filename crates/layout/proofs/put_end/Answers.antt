-- `layout::put_end` meets its contract. The level bytes are copied behind the n bytes, and the trailer behind them. Assumes nothing.
use native.Mathlib.Omega.{arith}
use Rattle.layout.proofs.Copies.{ended}
use Rattle.layout.proofs.put_end.Goals as goal

pub returns : goal.returns
returns c =
    let a = c.args in
    ended a.out.now a.levels.now c.copy_at.new.out c.trailer_bytes-end.result _ a.n a.counts (omega arith)
    c.copy_at.ensures c.trailer_bytes-end.ensures c.copy_at-2.ensures
