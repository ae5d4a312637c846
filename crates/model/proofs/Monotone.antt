-- Raising is monotone: where an event's vector and those of the candidates are at least as high in one recording as those of
-- their twins in another, with a k no lower, no further candidates and enough of them, so is the k-th least.
-- Assumes nothing.
use Prim.Native.Nat.{ℕ, ◌≤◌, zero-le}
use mathlib.Core.Path.{◌≡◌, sym, ap, subst, ◌∙◌}
use mathlib.Core.Bool.{Bool, true, false, not, ◌&&◌}
use mathlib.Core.List.{List, map}
use native.Mathlib.Nat.{le_trans, le_of_eq}
use native.Mathlib.Omega.{arith}
use lib.Dec.{leb, eqb}
use lib.ListN.{length, length-map}
use Rattle.model.specs.declared.Event.{Event}
use Rattle.model.specs.Numbers.{tally, count, filter, picked, kth_least}
use Rattle.model.specs.Recording.{start_of, post_of, Recording, event_in, event, kind_of, object_of, wait, flag_wait, is_on, is_wait}
use Rattle.model.specs.Vectors.{position, Vectors, number, ordered}
use Rattle.model.specs.Passes.{events_on, post_where, k_where, needed, serving, candidates, kth_among, served}
use Rattle.model.specs.OneJob.{SameWork}
use Rattle.model.proofs.Tests.{cases, clash, fails, of-not, to_not, both, first, second, leb-true, leb-false, le-leb}
use Rattle.model.proofs.Counting.{count_map, count_filter}
use Rattle.model.proofs.Picked.{count_picked}
use Rattle.model.proofs.Least.{at_most, kth_le, kth_gt}
use Rattle.model.proofs.Twins.{Twin, twin_sym, twin_equal, twin_on, SameRecords, same_back, fewer}

-- ---- the k-th least, of any numbers

-- of at least k numbers, at least k are at most the k-th least
kth_many : (k : ℕ) (l : List ℕ) → k ≤ length l → k ≤ at_most (kth_least k l) l
kth_many k l h =
    cases (leb k (at_most (kth_least k l) l)) (λ t. leb-true _ _ t)
    (λ t. let r = kth_gt k l (kth_least k l) h (leb-false _ _ t) in absurd (omega arith))

-- it rises with k, and where no more of the numbers lie at or below any bound
pub kth_rises : (k j : ℕ) (l m : List ℕ) → k ≤ j → j ≤ length m → ((v : ℕ) → at_most v m ≤ at_most v l) → kth_least k l ≤ kth_least j m
kth_rises k j l m h many fewer = kth_le k l (kth_least j m) (le_trans h (le_trans (kth_many j m many) (fewer (kth_least j m))))

-- the numbers at most v of the events of a kind, s, that a filter, c, leaves
candidates_tally : (f : ℕ → ℕ) (s c : ℕ → Bool) (n v : ℕ)
    → at_most v (map f (filter c (picked s n))) ≡ tally (λ a. s a && (c a && leb (f a) v)) n
candidates_tally f s c n v =
    count_map (λ y. leb y v) f (filter c (picked s n)) ∙ count_filter (λ a. leb (f a) v) c (picked s n)
    ∙ count_picked s (λ a. c a && leb (f a) v) n

-- ---- two lists of events with the same records

-- no number of X, for an event of l, is above that of Y for its twin of m
abbrev pub Below : List Event → List Event → Vectors → Vectors → Type 0
Below l m X Y = (a x t : ℕ) → Twin l m a x → number X a t ≤ number Y x t

-- the events of the kind c that e asks for, on its object, that e is not ordered before
abbrev pub choices : List Event → Vectors → (Event → ℕ) → ℕ → List ℕ
choices l X c e = filter (λ a. not (ordered l X e a)) (picked (λ a. is_on (c (event_in l e)) (event_in l e).object (event_in l a)) (length l))

module _ (l m : List Event) (same : SameRecords l m) where
  -- the k-th least rises from l to m: with a k that is no lower in m, for events of any kind, and any filter that leaves no event
  -- of m whose twin it does not leave in l, with enough of them left in m
  pub kth_below : (k j : ℕ) (f g : ℕ → ℕ) (s c r d : ℕ → Bool) → k ≤ j → j ≤ length (filter d (picked r (length m)))
      → ((a x : ℕ) → Twin l m a x → r x ≡ true → d x ≡ true → (s a ≡ true) × (c a ≡ true) × (f a ≤ g x))
      → kth_least k (map f (filter c (picked s (length l)))) ≤ kth_least j (map g (filter d (picked r (length m))))
  kth_below k j f g s c r d h many low =
      kth_rises k j (map f (filter c (picked s (length l)))) (map g (filter d (picked r (length m)))) h
      (le_trans many (le_of_eq (sym (length-map (filter d (picked r (length m))) g))))
      (λ v.
      let p = candidates_tally f s c (length l) v in
      let q = candidates_tally g r d (length m) v in
      let e = fewer l m same (λ a. s a && (c a && leb (f a) v)) (λ x. r x && (d x && leb (g x) v)) (passes v) in omega arith)
    where
      passes : (v a x : ℕ) → Twin l m a x → (r x && (d x && leb (g x) v)) ≡ true → (s a && (c a && leb (f a) v)) ≡ true
      passes v a x w t =
          let rest = second (r x) _ t in
          let (p, q, u) = low a x w (first (r x) _ t) (first (d x) _ rest) in
          both p (both q (le-leb (f a) v (le_trans u (leb-true (g x) v (second (d x) _ rest)))))

  module _ (X Y : Vectors) (below : Below l m X Y) where
    -- what X orders, Y orders
    pub ordered_below : (a b x y : ℕ) → Twin l m a x → Twin l m b y → ordered l X a b ≡ true → ordered m Y x y ≡ true
    unfolding ordered
    ordered_below a b x y v w t =
        let reached = leb-true (position l a) (number X b (event_in l a).task) (second (not (eqb a b)) _ t) in
        both (ap not (sym (twin_equal l m a b x y v w)) ∙ first (not (eqb a b)) _ t)
        (le-leb (position m x) (number Y y (event_in m x).task)
        (subst (λ (r : Event). position m x ≤ number Y y r.task) v.same
        (le_trans (le_of_eq (sym v.place)) (le_trans reached (below b y (event_in l a).task w)))))

    -- no fewer events of a kind are ordered before an event
    pub before_below : (r s : ℕ → Bool) → ((a y : ℕ) → Twin l m a y → r a ≡ s y) → (e x : ℕ) → Twin l m e x
        → count (λ a. ordered l X a e) (picked r (length l)) ≤ count (λ y. ordered m Y y x) (picked s (length m))
    before_below r s alike e x w =
        let p = count_picked r (λ a. ordered l X a e) (length l) in
        let q = count_picked s (λ y. ordered m Y y x) (length m) in
        let h = fewer m l (same_back l m same) (λ y. s y && ordered m Y y x) (λ a. r a && ordered l X a e)
        (λ y a v t. let u = twin_sym m l y a v in
        both (sym (alike a y u) ∙ first (r a) _ t) (ordered_below a e y x u w (second (r a) _ t))) in omega arith

    -- what step 2 raises to rises, for choices of any kind c and with any k that is no lower in m
    pub raise_below : (c : Event → ℕ) (k j e x t : ℕ) → Twin l m e x → k ≤ j → j ≤ length (choices m Y c x)
        → kth_among X k (choices l X c e) t ≤ kth_among Y j (choices m Y c x) t
    unfolding kth_among
    raise_below c k j e x t w h many =
        kth_below k j (λ a. number X a t) (λ y. number Y y t)
        (λ a. is_on (c (event_in l e)) (event_in l e).object (event_in l a)) (λ a. not (ordered l X e a))
        (λ y. is_on (c (event_in m x)) (event_in m x).object (event_in m y)) (λ y. not (ordered m Y x y)) h many
        (λ a y v p q. (
          twin_on l m c e x a y w v ∙ p,
          to_not (fails (ordered l X e a) (λ u. clash (ordered_below e a x y w v u) (of-not (ordered m Y x y) q))),
          below a y t v,
        ))

-- ---- two recordings of the same work

abbrev pub Twins : Recording → Recording → ℕ → ℕ → Type 0
Twins E F a x = Twin E.events F.events a x

module _ (E F : Recording) (same : SameWork E F) (X Y : Vectors) (below : Below E.events F.events X Y) where
  -- k rises: the start counts and the post counts are the same
  pub needed_below : (e x : ℕ) → Twins E F e x → needed E X e ≤ needed F Y x
  unfolding needed events_on
  needed_below e x w = subst (λ (v : Event). needed E X e ≤ k_where F Y x (eqb v.kind wait)) w.same (go (eqb (kind_of E e) wait))
    where
      flag : (b : Bool) → post_where E e b ≤ post_where F x b
      flag false = zero-le
      flag true = let posts = ap (λ (v : Event). post_of E.levels v.object) w.same ∙ same.posts (object_of F x) in omega arith

      go : (b : Bool) → k_where E X e b ≤ k_where F Y x b
      go false =
          subst (λ (v : Event). k_where E X e false ≤ post_where F x (eqb v.kind flag_wait)) w.same (flag (eqb (kind_of E e) flag_wait))
      go true =
          let starts = ap (λ (v : Event). start_of E.levels v.object) w.same ∙ same.starts (object_of F x) in
          let h = before_below E.events F.events same.records X Y below (λ a. is_wait (object_of E e) (event E a))
          (λ y. is_wait (object_of F x) (event F y)) (λ a y v. twin_on E.events F.events (λ _. wait) e x a y w v) e x w in omega arith

  -- candidates are choices among the events that serve e
  pub served_below : (e x t : ℕ) → Twins E F e x → needed F Y x ≤ length (candidates F Y x) → served E X e t ≤ served F Y x t
  unfolding served candidates events_on
  served_below e x t w many =
      raise_below E.events F.events same.records X Y below (λ v. serving v.kind) (needed E X e) (needed F Y x) e x t w (needed_below e x w) many
