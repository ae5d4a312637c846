-- Walks along the chain of a cell: what they yield, and that the parts of what is yielded are all. Assumes nothing.
use mathlib.Core.Path.{◌≡◌, sym, ap, subst, ◌∙◌}
use mathlib.Core.Bool.{Bool, true, false}
use mathlib.Core.List.{List, [], ◌∷◌, ◌++◌, append-nil, append_assoc}
use Prim.Native.Nat.{ℕ, zero, suc, ◌+◌, ◌*◌, ◌≤◌, ◌<◌}
use native.Mathlib.Nat.{suc-mul}
use native.Mathlib.Omega.{arith}
use lib.Dec.{ltb}
use lib.ListN.{length, get_or, length-append}
use Rattle.std.specs.List.{All}
use Rattle.std.specs.Iterator.{YieldsFirst, Yields}
use Rattle.std.proofs.Common.{Option, Some, None, map-id}
use Rattle.std.proofs.lemmas.Iterator.{YieldsList}
use Rattle.std.proofs.lemmas.Iterator.Consumers.{YieldsList-from_first, YieldsList-turn, YieldsList-end}
use Rattle.model.specs.Numbers.{each, flat_map}
use Rattle.model.proofs.Tests.{cases, ltb-true, ltb-false, lt-ltb}
use Rattle.model.proofs.Each.{each_more, each_skip}
use Rattle.events.specs.Chains.{Nearest}
use Rattle.events.specs.Links.{along}
use Rattle.events.specs.declared.Linked.{Linked}
use Rattle.events.proofs.Links.{left, along_none}

all_with : (P : ℕ → Type 0) (x : ℕ) (l : List ℕ) → P x → All P l → All P (x ∷ l)
all_with P x l h t zero d k = h
all_with P x l h t (suc i) d k = t i d (omega arith)

module _ {A : Type 0} (f : ℕ → List A) where
  pub flat_more : (l : List ℕ) (x : ℕ) → flat_map f (l ++ x ∷ []) ≡ flat_map f l ++ f x
  unfolding flat_map
  flat_more [] x = append-nil (f x)
  flat_more (y ∷ l) x = ap (λ (r : List A). f y ++ r) (flat_more l x) ∙ sym (append_assoc (f y) (flat_map f l) (f x))

  pub flat_most : (m : ℕ) → ((i : ℕ) → length (f i) ≤ m) → (l : List ℕ) → length (flat_map f l) ≤ length l * m
  unfolding flat_map
  flat_most m h [] = omega arith
  flat_most m h (x ∷ l) = omega (arith, flat_most m h l, h x, length-append (f x) (flat_map f l), suc-mul (length l) m)

-- ---- what a chain links

module _ (links : List ℕ) (n : ℕ) where
  along_one : (k m : ℕ) → m < n → along links n (suc k) m ≡ m ∷ along links n k (get_or links m 0)
  unfolding along
  along_one k m h = rw (lt-ltb m n h)

  pub along_few : (k m : ℕ) → length (along links n k m) ≤ k
  unfolding along
  along_few zero m = omega arith
  along_few (suc k) m =
      cases (ltb m n)
      (λ t. rw (along_one k m (ltb-true m n t)) (omega (arith, along_few k (get_or links m 0))))
      (λ t. rw (along_none links n (suc k) m (ltb-false m n t)) (omega arith))

  module _ (p : ℕ → Bool) (to_nearest : (a : ℕ) → a < n → p a ≡ true → Nearest p n (a + 1) (get_or links a 0)) where
    -- from `low` on, below n, and each passes the test
    pub along_all : (low k m : ℕ) → low ≤ m → (m < n → p m ≡ true) → All (λ j. (low ≤ j) × (j < n) × (p j ≡ true)) (along links n k m)
    unfolding along
    along_all low zero m a h = λ i d l. absurd (omega arith)
    along_all low (suc k) m a h =
        cases (ltb m n)
        (λ t.
        let l : m < n = ltb-true m n t in
        let b = to_nearest m l (h l) in
        rw (along_one k m l) (all_with (λ j. (low ≤ j) × (j < n) × (p j ≡ true)) m _ (a, l, h l) (along_all low k (get_or links m 0) (omega (arith, b.low)) b.hit)))
        (λ t. rw (along_none links n (suc k) m (ltb-false m n t)) (λ i d l. absurd (omega arith)))

    -- parts that are empty where the test fails
    pub each_along : {A : Type 0} (f : ℕ → List A) → ((i : ℕ) → p i ≡ false → f i ≡ []) → (k m : ℕ) → n ≤ k + m → m ≤ n → (m < n → p m ≡ true)
        → each f m ++ flat_map f (along links n k m) ≡ each f n
    unfolding along flat_map
    each_along f e zero m g b h =
        let q : m ≡ n = omega arith in
        append-nil (each f m) ∙ ap (each f) q
    each_along f e (suc k) m g b h =
        cases (ltb m n)
        (λ t.
        let l : m < n = ltb-true m n t in
        let r = to_nearest m l (h l) in
        let m' : ℕ = get_or links m 0 in
        let skip : each f m' ≡ each f (m + 1) = each_skip f (m + 1) m' r.low (λ i x y. e i (r.passed i x y)) in
        rw (along_one k m l)
        (sym (append_assoc (each f m) (f m) (flat_map f (along links n k m'))) ∙ ap (λ x. x ++ flat_map f (along links n k m')) (sym (skip ∙ each_more f m)) ∙ each_along f e k m' (omega (arith, r.low)) r.high r.hit))
        (λ t.
        let q : m ≡ n = omega (arith, ltb-false m n t) in
        rw (along_none links n (suc k) m (ltb-false m n t)) (append-nil (each f m) ∙ ap (each f) q))

-- ---- the walk

module _ (s : Linked) (all : List ℕ) (q : left s ≡ all) (xs : List ℕ) (t : Linked) (y : Yields (YieldsFirst left) s xs t) (r : Option ℕ) (u : Linked) (g : YieldsFirst left t r u) where
  walk : YieldsList (YieldsFirst left) (λ x. x) s all
  walk = YieldsList-from_first (λ x. x) left all q

  pub one_more : (P : ℕ → Type 0) → All P all → (x : ℕ) → r ≡ Some x → P x × (length xs < length all)
  one_more P h x k =
      let w = YieldsList-turn walk xs t y r u x k g in
      (subst P (sym w.1) (h (length xs) x w.0), w.0)

  pub no_more : r ≡ None → xs ≡ all
  no_more k = sym (map-id xs) ∙ (YieldsList-end walk xs t y r u k g).0
