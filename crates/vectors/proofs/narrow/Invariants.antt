-- narrow meets its contract: the k-th least stays between lo and hi.
-- Assumes nothing.
use Prim.Native.Nat.{◌-◌, ◌≤◌}
use Rattle.model.specs.Numbers.{kth_least}
use Rattle.vectors.proofs.narrow.Given as goal

abbrev pub invariant-loop-lo : goal.invariant-loop-lo
invariant-loop-lo l =
    (l.lo ≤ kth_least l.k l.s) × (kth_least l.k l.s ≤ l.hi) × (l.hi ≤ l.to)

abbrev pub decreases-loop-lo : goal.decreases-loop-lo
decreases-loop-lo l =
    l.hi - l.lo
