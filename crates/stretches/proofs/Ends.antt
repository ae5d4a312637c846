-- The last event of one stretch and the first of another speak for all their events, by any vectors that rise along each task: the
-- events of the one stand at lower positions than its last, and those of the other have higher numbers than its first.
-- Assumes nothing.
use Prim.Native.Nat.{ℕ, ◌≤◌, ◌<◌}
use mathlib.Core.Path.{◌≡◌, refl, sym, ap, ◌∙◌}
use mathlib.Core.Bool.{Bool, true, false, not}
use mathlib.Core.List.{List}
use native.Mathlib.Nat.{le_of_eq}
use native.Mathlib.Omega.{arith}
use lib.Dec.{eqb}
use lib.ListN.{length}
use Rattle.model.specs.declared.Event.{Event}
use Rattle.model.specs.Recording.{Recording, event_in, task_of}
use Rattle.model.specs.Vectors.{Vectors, number, position, ordered}
use Rattle.model.proofs.Tests.{clash, fails, to_not, both, second, compared, leb-true, le-leb, ne_eqb}
use Rattle.model.proofs.Positions.{position_rises}
use Rattle.model.proofs.Rise.{Rising}
use Rattle.stretches.specs.declared.Stretch.{Stretch}
use Rattle.stretches.specs.Stretches.{within, before, two_stretches}
use Rattle.stretches.specs.AllEvents.{AllOrdered, ByEnds}
use Rattle.stretches.proofs.Events.{before_all, all_before, At, found_at, of_stretch, first_event, last_event_lem, first_within, last_within, Apart, parted, parted_turned}

-- two tests are one where each passes with the other
alike : (a b : Bool) → (a ≡ true → b ≡ true) → (b ≡ true → a ≡ true) → a ≡ b
alike true b f g = sym (f refl)
alike false b f g = sym (fails b (λ t. clash (g t) refl))

-- of two events of one task the one at the lower position was recorded first
not_later : (l : List Event) (a b : ℕ) → (event_in l a).task ≡ (event_in l b).task → position l a ≤ position l b → a ≤ b
not_later l a b t h = compared a b (λ k. omega arith) (λ q. le_of_eq q) (λ k. let r = position_rises l b a k (sym t) in absurd (omega arith))

module _ (E : Recording) (X : Vectors) (rising : Rising E X) (r s : Stretch) (k : Apart E.events r s) where
  abbrev l : List Event
  l = E.events

  -- no event is of both
  no_common : (a b : ℕ) → within l r a ≡ true → within l s b ≡ true → ¬ (a ≡ b)
  no_common a b p q d =
      let (t, i, j) = of_stretch l r a p in
      let (u, m, n) = of_stretch l s b q in
      let c = ap (position l) d in
      k.apart (sym t ∙ ap (task_of E) d ∙ u) (omega arith) (omega arith)

  rises : (a b t : ℕ) → a ≤ b → b < length l → task_of E a ≡ task_of E b → number X a t ≤ number X b t
  rises a b t h i q =
      compared a b (λ k. rising a b t k i q) (λ d. le_of_eq (ap (λ (z : ℕ). number X z t) d)) (λ k. absurd (omega arith))

  -- where the last event of r is ordered before the first of s, every event of r is before every one of s
  ends_speak : (a b : ℕ) → At l r.task r.last a → At l s.task s.first b → ordered l X a b ≡ true → AllOrdered l X r s
  unfolding ordered
  ends_speak a b e f h x y i p j q =
      let (tx, lx, hx) = of_stretch l r x p in
      let (ty, ly, hy) = of_stretch l s y q in
      let reached = leb-true (position l a) (number X b (task_of E a)) (second (not (eqb a b)) _ h) in
      let same = f.own ∙ sym ty in
      let more = rises b y (task_of E a) (not_later l b y same (omega arith)) j same in
      let there = ap (number X y) (e.own ∙ sym tx) in
      both (to_not (ne_eqb x y (no_common x y p q))) (le-leb (position l x) (number X y (task_of E x)) (omega arith))

  ends_decide : (a b : ℕ) → At l r.task r.last a → At l s.task s.first b → before l X r s ≡ ordered l X a b
  ends_decide a b e f =
      alike (before l X r s) (ordered l X a b)
      (λ h. before_all l X r s h a b e.inside (last_within l r k.left a e) f.inside (first_within l s k.right b f))
      (λ h. all_before l X r s (ends_speak a b e f h))

  by_ends : ByEnds l X r s
  by_ends =
      let (a, e) = last_event_lem l r k.left in
      let (b, f) = first_event l s k.right in
      (a, b, found_at l r.task r.last a e, found_at l s.task s.first b f, ends_decide a b e f)

-- of stretches that the checks admit, either way round
pub both_ends : (E : Recording) (X : Vectors) → Rising E X → (r s : Stretch) → two_stretches E r s ≡ true → ByEnds E.events X r s × ByEnds E.events X s r
both_ends E X rising r s two =
    let k = parted E r s two in
    (by_ends E X rising r s k, by_ends E X rising s r (parted_turned E.events r s k))
