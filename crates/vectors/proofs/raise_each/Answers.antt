-- raise_each meets its contract: after t turns the first t numbers are raised, and the column that turn t reads is as it was.
-- Assumes nothing.
use mathlib.Core.Path.{◌≡◌, ap, ◌∙◌}
use Prim.Native.Nat.{ℕ, ◌+◌, ◌*◌, ◌<◌, max}
use native.Mathlib.Omega.{arith}
use lib.ListN.{get_or}
use Rattle.model.specs.Numbers.{kth_least}
use Rattle.vectors.specs.Rows.{column}
use Rattle.vectors.proofs.Raised.{raised_start, raise_turn, column_read, columns_read}
use Rattle.vectors.proofs.Rising.{rose_none, rose_then}
use Rattle.vectors.proofs.raise_each.Goals as goal

pub loop-t-init : goal.loop-t-init
loop-t-init c =
    (raised_start _ _ _, rose_none _)

pub loop-t-preserved : goal.loop-t-preserved
loop-t-preserved c =
    let a = c.args in
    let k = c.loop-t in
    let f = c.raise_number-changed in
    let y = c.or_kth_of-y in
    let l = a.v.now in
    let es = a.events.now in
    let h : k.t < a.tasks = omega arith in
    let g : ℕ → ℕ = λ t. kth_least a.k (column a.tasks l t es) in
    let q = ap (kth_least a.k) (columns_read l k.v a.tasks a.e g k.t es h k.invariant.0) in
    let own = column_read l k.v a.tasks a.e g k.t h k.invariant.0 a.e in
    let x : max (get_or l (a.e * a.tasks + k.t) 0) y.result ≡ max (get_or l (a.e * a.tasks + k.t) 0) (kth_least a.k (column a.tasks l k.t es)) =
    omega (arith, y.ensures) in (
      f.ensures.v_after ∙ raise_turn l k.v a.tasks a.e g k.t y.result h k.invariant.0 x,
      rose_then k.invariant.1 f.ensures.rose,
    )
