-- Two recordings of the same work have the same admissible orders: an order of the one, each event put as its twin, is one of the
-- other. So of twins, what comes first in some order of the one does in some order of the other.
-- Assumes nothing.
use Prim.Native.Nat.{ℕ, suc, ◌+◌, ◌≤◌, ◌<◌}
use mathlib.Core.Path.{◌≡◌, refl, sym, ap₂, subst, subst₂, ◌∙◌}
use mathlib.Core.Bool.{Bool, cond, ◌&&◌}
use mathlib.Core.List.{List, [], ◌∷◌}
use native.Mathlib.Omega.{arith}
use lib.Dec.{leb, ltb, eqb}
use lib.ListN.{length, get_or}
use Rattle.model.specs.declared.Event.{Event}
use Rattle.model.specs.Numbers.{bit, count}
use Rattle.model.specs.Recording.{Levels, start_of, post_of, Recording, size, event, task_of, wait, flag_wait, is_signal, is_wait, is_post, implies, wait_kept, flag_kept, life_kept, obeys}
use Rattle.model.specs.Orders.{place, Precedes, occurrences, rearranged, Obeying, Admissible, Sometimes}
use Rattle.model.specs.OneJob.{SameWork}
use Rattle.model.proofs.Tests.{cases, bit_true, bit_false, ltb-true, ltb-false, lt-ltb, ne_eqb}
use Rattle.model.proofs.Alongside.{Alongside, ends, beside, alongside_map}
use Rattle.model.proofs.Place.{element}
use Rattle.model.proofs.Twins.{Twin, twin_sym, twin_equal, twin_before, same_back, twin_of}
use Rattle.model.proofs.Monotone.{Twins}

-- ---- lists of twins, place by place

module _ (l m : List Event) where
  -- an event stands where its twin does
  twin_place : {o r : List ℕ} → Alongside (Twin l m) o r → (a x : ℕ) → Twin l m a x → place o a ≡ place r x
  unfolding place
  twin_place ends a x w = refl
  twin_place (beside {a = b} {b = y} {l₁ = o} {l₂ = r} v t) a x w =
      ap₂ (λ (c : Bool) (n : ℕ). cond c 0 (suc n)) (twin_equal l m a b x y w v) (twin_place {o = o} {r = r} t a x w)

  -- and as often
  twin_occurs : {o r : List ℕ} → Alongside (Twin l m) o r → (a x : ℕ) → Twin l m a x → occurrences a o ≡ occurrences x r
  unfolding count
  twin_occurs ends a x w = refl
  twin_occurs (beside {a = b} {b = y} {l₁ = o} {l₂ = r} v t) a x w =
      ap₂ (λ (c : Bool) (n : ℕ). bit c + n) (twin_equal l m a b x y w v) (twin_occurs {o = o} {r = r} t a x w)

  -- what has no twin does not stand there
  none_occurs : {o r : List ℕ} → Alongside (Twin l m) o r → (e : ℕ) → length l ≤ e → occurrences e o ≡ 0
  unfolding count
  none_occurs ends e h = refl
  none_occurs (beside {a = b} {l₁ = o} {l₂ = r} v t) e h =
      let k = v.left in
      ap₂ (λ (c : Bool) (n : ℕ). bit c + n) (ne_eqb e b (λ q. omega arith)) (none_occurs {o = o} {r = r} t e h)

-- ---- the rules

-- of the levels they read the start counts and the post counts alone
obeys_same : (x y : Levels) → ((s : ℕ) → start_of x s ≡ start_of y s) → ((g : ℕ) → post_of x g ≡ post_of y g) → (before : List Event) (v : Event)
    → obeys x before v ≡ obeys y before v
unfolding obeys wait_kept flag_kept
obeys_same x y starts posts before v =
    ap₂
    (λ (n k : ℕ).
    life_kept before v
    && implies (eqb v.kind wait) (ltb (count (is_wait v.object) before) (n + count (is_signal v.object) before))
    && implies (eqb v.kind flag_wait) (leb k (count (is_post v.object) before)))
    (starts v.object) (posts v.object)

-- ---- an order of F as one of E

module _ (E F : Recording) (same : SameWork E F) where
  -- the twins of its events, in its order
  put_twins : (r : List ℕ) → ((i : ℕ) → i < length r → get_or r i 0 < size F) → (o : List ℕ) × Alongside (Twins E F) o r
  put_twins [] inside = ([], ends)
  put_twins (x ∷ r) inside =
      let (a, w) = twin_of F.events E.events (same_back E.events F.events same.records) x (inside 0 (omega arith)) in
      let (o, t) = put_twins r (λ i h. inside (suc i) (omega arith)) in
      (a ∷ o, beside (twin_sym F.events E.events x a w) t)

  module _ (o r : List ℕ) (twins : Alongside (Twins E F) o r) where
    -- they stand where their twins do
    moved_precedes : (a b x y : ℕ) → Twins E F a x → Twins E F b y → Precedes r x y → Precedes o a b
    moved_precedes a b x y v w p =
        let i = twin_place E.events F.events twins a x v in
        let j = twin_place E.events F.events twins b y w in omega arith

    module _ (adm : Admissible F r) where
      moved_once : (e : ℕ) → occurrences e o ≡ bit (ltb e (size E))
      moved_once e =
          cases (ltb e (size E))
          (λ t.
          let (x, w) = twin_of E.events F.events same.records e (ltb-true e (size E) t) in
          twin_occurs E.events F.events twins e x w ∙ adm.once x ∙ bit_true (lt-ltb x (size F) w.right) ∙ sym (bit_true t))
          (λ t. none_occurs E.events F.events twins e (ltb-false e (size E) t) ∙ sym (bit_false t))

      moved_own : (a b : ℕ) → a < b → b < size E → task_of E a ≡ task_of E b → Precedes o a b
      moved_own a b k l t =
          let (x, v) = twin_of E.events F.events same.records a (omega arith) in
          let (y, w) = twin_of E.events F.events same.records b l in
          moved_precedes a b x y v w
          (adm.own x y (twin_before E.events F.events a b x y v w t k) w.right
          (subst₂ (λ (i j : Event). i.task ≡ j.task) v.same w.same t))

      moved_rules : Obeying E.levels (rearranged E o)
      moved_rules =
          subst (Obeying E.levels) (sym (alongside_map (event E) (event F) (λ a x w. w.same) twins))
          (λ i h. obeys_same E.levels F.levels same.starts same.posts _ _ ∙ adm.rules i h)

      moved_admissible : Admissible E o
      moved_admissible = record { once = moved_once; own = moved_own; rules = moved_rules }

  pub sometimes_twins : (a b x y : ℕ) → Twins E F a x → Twins E F b y → Sometimes F x y → Sometimes E a b
  sometimes_twins a b x y v w (r, adm, p) =
      let (o, t) = put_twins r (λ i h. (element (size F) r adm.once i h).0) in
      (o, moved_admissible o r t adm, moved_precedes o r t a b x y v w p)
