-- raise_to_kth meets its contract: the k-th least of fewer than k numbers is 0, and raises nothing.
-- Assumes nothing.
use mathlib.Core.Path.{sym}
use Prim.Native.Nat.{ℕ, ◌*◌}
use native.Mathlib.Omega.{arith}
use Rattle.model.specs.Numbers.{kth_least}
use Rattle.model.proofs.Least.{kth_few}
use Rattle.vectors.specs.Rows.{column}
use Rattle.vectors.proofs.Chunks.{column_length}
use Rattle.vectors.proofs.Raised.{raised_none}
use Rattle.vectors.proofs.Rising.{rose_none}
use Rattle.vectors.proofs.raise_to_kth.Goals as goal

pub returns-then-events-k : goal.returns-then-events-k
returns-then-events-k c =
    let a = c.args in
    let l = a.v.now in
    let es = a.events.now in
    let g : ℕ → ℕ = λ t. kth_least a.k (column a.tasks l t es) in
    let few = raised_none l (a.e * a.tasks) g a.tasks λ t h.
    let n = column_length a.tasks l t es in
    let z = kth_few a.k (column a.tasks l t es) (omega arith) in
    omega arith in
    record { v_after = sym few; rose = rose_none l }
