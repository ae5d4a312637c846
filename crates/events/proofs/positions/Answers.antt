-- `events::positions` meets its contract: the running counts are those of the first e events, and what is kept for these is right.
-- Assumes nothing.
use mathlib.Core.Path.{◌≡◌, refl}
use Prim.Native.Nat.{ℕ, ◌*◌, ◌<◌}
use native.Mathlib.Omega.{arith}
use lib.ListN.{get_or, length-set, length-replicate}
use Rattle.model.specs.File.{events_of}
use Rattle.model.specs.Vectors.{position}
use Rattle.events.proofs.Laws.{events_length}
use Rattle.events.proofs.Kept.{kept_next}
use Rattle.events.proofs.Running.{start, next, placed, few}
use Rattle.events.proofs.positions.Goals as goal

pub loop-e-init : goal.loop-e-init
loop-e-init c =
    record { wide = length-replicate {A = ℕ} 1024 0; counted = start _; placed = λ i l. absurd (omega arith) }

pub overflow_add-at : goal.overflow_add-at
overflow_add-at c =
    let k = c.loop-e in
    let a = c.args in
    let t = get_or a.records.now (4 * k.e) 0 in
    let byte : t < 256 = omega (arith, c.type_inv.records (4 * k.e)) in
    omega (arith, few a.records.now k.e k.own k.invariant.counted t byte)

pub loop-e-preserved : goal.loop-e-preserved
loop-e-preserved c =
    let s = c.args.records.now in
    let k = c.loop-e in
    let t = get_or s (4 * k.e) 0 in
    let byte : t < 256 = omega (arith, c.type_inv.records (4 * k.e)) in
    record {
      wide = simp length-set k.invariant.wide;
      counted = next s k.e t k.own k.invariant.counted (omega arith) refl byte;
      placed = kept_next (λ i a. a ≡ position (events_of s) i) k.positions k.e _ (omega arith) k.invariant.placed (placed s k.e t k.own k.invariant.counted (omega arith) refl byte);
    }

pub returns : goal.returns
returns c =
    let k = c.loop-e in
    let n = events_length c.args.records.now in
    record { room = omega arith; placed = λ e l. k.invariant.placed e (omega arith) }
