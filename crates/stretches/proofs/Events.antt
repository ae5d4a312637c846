-- The events of a stretch: which they are, that its first and its last are among them, and what the checks of 17 tell.
-- Assumes nothing.
use Prim.Native.Nat.{ℕ, zero, suc, ◌-◌, ◌≤◌, ◌<◌}
use Rattle.std.specs.Prelude.{Option, Some, None}
use mathlib.Core.Path.{◌≡◌, refl, sym, ap, ◌∙◌}
use mathlib.Core.Bool.{Bool, true, not, ◌&&◌}
use mathlib.Core.List.{List}
use native.Mathlib.Nat.{le_refl, not-suc-le-zero}
use native.Mathlib.Omega.{arith}
use lib.Dec.{leb, ltb}
use lib.ListN.{length, get_or}
use Rattle.model.specs.declared.Event.{Event}
use Rattle.model.specs.Numbers.{tally}
use Rattle.model.specs.Recording.{Recording, tasks, event_in, of_task}
use Rattle.model.specs.Vectors.{Vectors, position}
use Rattle.model.specs.Pairs.{own_events}
use Rattle.model.specs.Together.{at_position}
use Rattle.model.proofs.Tests.{clash, fails, of-not, both, first, second, all_three, implied, implies_by, last_or_lower, leb-true, le-leb, eqb-true, eq-eqb}
use Rattle.model.proofs.Picked.{picked_length}
use Rattle.model.proofs.Sum.{rank_rises}
use Rattle.model.proofs.Positions.{position_rank}
use Rattle.model.proofs.Twins.{own_at, named_of, finds}
use Rattle.stretches.specs.declared.Stretch.{Stretch}
use Rattle.stretches.specs.Stretches.{all, within, before, is_stretch, overlap, two_stretches}
use Rattle.stretches.specs.AllEvents.{AllOrdered}
use Rattle.std.specs.Prelude.{is_some}

-- ---- every number passes a test

all_true : (p : ℕ → Bool) (n : ℕ) → all p n ≡ true → (e : ℕ) → e < n → p e ≡ true
unfolding all
all_true p zero h e l = absurd (not-suc-le-zero l)
all_true p (suc n) h e l = last_or_lower l (λ d. ap p d ∙ second (all p n) (p n) h) (λ k. all_true p n (first (all p n) (p n) h) e k)

all_by : (p : ℕ → Bool) (n : ℕ) → ((e : ℕ) → e < n → p e ≡ true) → all p n ≡ true
unfolding all
all_by p zero h = refl
all_by p (suc n) h = both (all_by p n (λ e l. h e (omega arith))) (h n (le_refl (suc n)))

-- ---- one before the other

module _ (l : List Event) (X : Vectors) (r s : Stretch) where
  pub before_all : before l X r s ≡ true → AllOrdered l X r s
  unfolding before
  before_all h a b i p j q = implied (all_true _ (length l) (all_true _ (length l) h a i) b j) (both p q)

  pub all_before : AllOrdered l X r s → before l X r s ≡ true
  unfolding before
  all_before h =
      all_by _ (length l)
      (λ a i. all_by _ (length l) (λ b j. implies_by (within l r a && within l s b) _
      (λ t. h a b i (first (within l r a) (within l s b) t) j (second (within l r a) (within l s b) t))))

-- ---- the event at a position

-- a is the event of task t at position p
pub record At (l : List Event) (t p a : ℕ) : Type 0 where
  pub inside : a < length l
  pub own : (event_in l a).task ≡ t
  pub here : position l a ≡ p

-- each position up to the number of the task's events is that of one
position_at : (l : List Event) (t p : ℕ) → 1 ≤ p → p ≤ length (own_events l t) → (a : ℕ) × At l t p a
position_at l t p i j =
    let (inside, own, here) = own_at l t (p - 1) (omega arith) in
    (get_or (own_events l t) (p - 1) 0, record { inside = inside; own = own; here = here ∙ (let e : suc (p - 1) ≡ p = omega arith in e) })

pub found_at : (l : List Event) (t p a : ℕ) → At l t p a → at_position l t p ≡ Some a
found_at l t p a e = finds l t p a e.inside e.own e.here

-- a task has a position where an event is found there
pub has_position : (l : List Event) (t p : ℕ) → 1 ≤ p → leb p (length (own_events l t)) ≡ is_some (at_position l t p)
has_position l t p low = go (at_position l t p) refl
  where
    mine : ℕ → Bool
    mine e = of_task t (event_in l e)

    go : (f : Option ℕ) → at_position l t p ≡ f → leb p (length (own_events l t)) ≡ is_some f
    go (Some a) q =
        let (i, own, here) = named_of l t p a q in
        let rank = position_rank l a ∙ ap (λ (x : ℕ). suc (tally (λ e. of_task x (event_in l e)) a)) own in
        let most = rank_rises mine a (length l) i (eq-eqb _ t own) in
        let all = picked_length mine (length l) in
        le-leb p (length (own_events l t)) (omega arith)
    go None q =
        fails (leb p (length (own_events l t)))
        (λ h.
        let k = leb-true p (length (own_events l t)) h in
        let (a, e) = position_at l t p low k in
        let z = sym (found_at l t p a e) ∙ q in
        let y : ◌≡◌ {A = ℕ} 0 1 = cc in omega arith)

-- ---- the events of a stretch

module _ (l : List Event) (s : Stretch) where
  in_stretch : (a p : ℕ) → At l s.task p a → s.first ≤ p → p ≤ s.last → within l s a ≡ true
  unfolding within
  in_stretch a p e i j =
      both (both (eq-eqb _ _ e.own) (le-leb s.first (position l a) (omega arith))) (le-leb (position l a) s.last (omega arith))

  pub of_stretch : (a : ℕ) → within l s a ≡ true → ((event_in l a).task ≡ s.task) × (s.first ≤ position l a) × (position l a ≤ s.last)
  unfolding within
  of_stretch a h =
      let (t, i, j) = all_three (of_task s.task (event_in l a)) (leb s.first (position l a)) (leb (position l a) s.last) h in
      (eqb-true _ s.task t, leb-true s.first (position l a) i, leb-true (position l a) s.last j)

-- what the checks say of a stretch
pub record Known (l : List Event) (s : Stretch) : Type 0 where
  pub low : 1 ≤ s.first
  pub order : s.first ≤ s.last
  pub high : s.last ≤ length (own_events l s.task)

known : (E : Recording) (s : Stretch) → is_stretch E s ≡ true → Known E.events s
unfolding is_stretch
known E s h =
    let (a, b, c) = all_three (ltb s.task (tasks E) && leb 1 s.first) (leb s.first s.last) _ h in
    record { low = leb-true 1 s.first (second (ltb s.task (tasks E)) _ a); order = leb-true s.first s.last b; high = leb-true s.last _ c }

module _ (l : List Event) (s : Stretch) (k : Known l s) where
  pub first_event : (a : ℕ) × At l s.task s.first a
  first_event = position_at l s.task s.first k.low (omega arith)

  pub last_event_lem : (a : ℕ) × At l s.task s.last a
  last_event_lem = position_at l s.task s.last (omega arith) k.high

  pub first_within : (a : ℕ) → At l s.task s.first a → within l s a ≡ true
  first_within a e = in_stretch l s a s.first e (le_refl s.first) k.order

  pub last_within : (a : ℕ) → At l s.task s.last a → within l s a ≡ true
  last_within a e = in_stretch l s a s.last e k.order (le_refl s.last)

-- ---- two stretches

-- what the checks say of two: each is a stretch, and they have no position of one task in common
pub record Apart (l : List Event) (r s : Stretch) : Type 0 where
  pub left : Known l r
  pub right : Known l s
  pub apart : r.task ≡ s.task → r.first ≤ s.last → s.first ≤ r.last → ⊥

pub parted : (E : Recording) (r s : Stretch) → two_stretches E r s ≡ true → Apart E.events r s
unfolding two_stretches overlap
parted E r s h =
    let (p, q, d) = all_three (is_stretch E r) (is_stretch E s) (not (overlap r s)) h in
    record {
      left = known E r p;
      right = known E s q;
      apart = λ t i j. clash (both (both (eq-eqb r.task s.task t) (le-leb r.first s.last i)) (le-leb s.first r.last j)) (of-not (overlap r s) d);
    }

pub parted_turned : (l : List Event) (r s : Stretch) → Apart l r s → Apart l s r
parted_turned l r s k = record { left = k.right; right = k.left; apart = λ t i j. k.apart (sym t) j i }
