-- raise_row meets its contract: after t turns the first t numbers are raised, and those that turn t reads are as they were.
-- Assumes nothing.
use mathlib.Core.Path.{ap, ◌∙◌}
use Prim.Native.Nat.{ℕ, ◌+◌, ◌*◌, ◌<◌, max}
use native.Mathlib.Omega.{arith}
use lib.ListN.{get_or}
use Rattle.vectors.proofs.Raised.{raised_start, raise_turn, column_read}
use Rattle.vectors.proofs.Rising.{rose_none, rose_then}
use Rattle.vectors.proofs.raise_row.Goals as goal

pub loop-t-init : goal.loop-t-init
loop-t-init c =
    (raised_start _ _ _, rose_none _)

pub loop-t-preserved : goal.loop-t-preserved
loop-t-preserved c =
    let a = c.args in
    let k = c.loop-t in
    let f = c.raise_number-changed in
    let l = a.v.now in
    let h : k.t < a.tasks = omega arith in
    let g : ℕ → ℕ = λ t. get_or l (a.from * a.tasks + t) 0 in
    let r = column_read l k.v a.tasks a.to g k.t h k.invariant.0 a.from in (
      f.ensures.v_after ∙ raise_turn l k.v a.tasks a.to g k.t _ h k.invariant.0 (ap (λ (y : ℕ). max (get_or l (a.to * a.tasks + k.t) 0) y) r),
      rose_then k.invariant.1 f.ensures.rose,
    )
