-- narrow meets its contract: the k-th least stays between lo and hi.
-- Assumes nothing.
use Prim.Native.Nat.{◌+◌, ◌-◌, ◌/◌}
use native.Mathlib.Omega.{arith}
use Rattle.model.proofs.Least.{kth_le, kth_gt}
use Rattle.vectors.proofs.narrow.Goals as goal

pub loop-lo-preserved-then-k-n : goal.loop-lo-preserved-then-k-n
loop-lo-preserved-then-k-n c =
    let a = c.args in
    let i = c.loop-lo in
    omega (arith, kth_le a.k a.s.now (i.lo + (i.hi - i.lo) / 2) (omega arith))

pub loop-lo-preserved : goal.loop-lo-preserved
loop-lo-preserved c =
    let a = c.args in
    let i = c.loop-lo in
    omega (arith, kth_gt a.k a.s.now (i.lo + (i.hi - i.lo) / 2) (omega arith) (omega arith))
