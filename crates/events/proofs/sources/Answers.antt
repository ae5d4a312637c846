-- `events::sources` meets its contract: what is kept for the first e events is right. Assumes nothing.
use mathlib.Core.Path.{◌≡◌, refl, sym, subst}
use Prim.Native.Nat.{ℕ, ◌*◌, ◌/◌, ◌%◌, ◌≤◌}
use native.Mathlib.Omega.{arith}
use lib.ListN.{length, get_or, length-set, length-replicate}
use Rattle.model.specs.File.{events_of}
use Rattle.events.specs.Kept.{found_below, source_of}
use Rattle.events.proofs.Laws.{events_length}
use Rattle.events.proofs.Kept.{three_kept, low_start, source_at}
use Rattle.events.proofs.sources.Goals as goal

pub loop-e-init : goal.loop-e-init
loop-e-init c =
    record { wide = length-replicate {A = ℕ} 3072 0; low = low_start 3072 _; kept = λ a l. absurd (omega arith) }

pub loop-e-preserved : goal.loop-e-preserved
unfolding source_of
loop-e-preserved c =
    let s = c.args.records.now in
    let n = length s / 4 in
    let l = events_of s in
    let k = c.loop-e in
    let x = c.number_of in
    let y = c.number_of-in-loop-e in
    let z = c.number_of-in-loop-e-2 in
    record {
      wide = simp length-set k.invariant.wide;
      low = λ a. three_kept (λ _ b. b ≤ n) k.kept k.e x.result y.result z.result (omega arith) x.ensures.1 y.ensures.1 z.ensures.1 a (λ _. k.invariant.low a);
      kept = λ a h.
          three_kept (λ i b. found_below n b ≡ source_of l (i / 3) (i % 3)) k.kept k.e x.result y.result z.result (omega arith)
          (source_at l k.e 0 (3 * k.e) _ _ (omega arith) (omega arith) x.ensures.0 c.before_or_fork.ensures.0)
          (source_at l k.e 1 _ _ _ refl (omega arith) y.ensures.0 c.join_fork.ensures.0)
          (source_at l k.e 2 _ _ _ refl (omega arith) z.ensures.0 c.join_last.ensures.0)
          a (λ o. k.invariant.kept a (o h));
    }

pub returns : goal.returns
returns c =
    let k = c.loop-e in
    let s = c.args.records.now in
    let n = events_length s in
    record {
      low = λ a. rw n (k.invariant.low a);
      source = λ a l. subst (λ (m : ℕ). found_below m (get_or k.kept a 0) ≡ source_of (events_of s) (a / 3) (a % 3)) (sym n) (k.invariant.kept a (omega arith));
    }
