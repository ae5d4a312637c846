-- Laws of the numbers that a chain links: how they go on by one, and that they are those picked where each link leads to the nearest. Assumes nothing.
use mathlib.Core.Path.{◌≡◌, refl, sym, ap, subst, ◌∙◌}
use mathlib.Core.Bool.{Bool, true, ◌&&◌}
use mathlib.Core.List.{List, [], ◌∷◌, ◌++◌, append-nil, append_assoc}
use Prim.Native.Nat.{ℕ, zero, suc, ◌+◌, ◌-◌, ◌≤◌, ◌<◌}
use native.Mathlib.Omega.{arith}
use lib.Dec.{ltb}
use lib.ListN.{length, get_or}
use Rattle.std.specs.List.{list_all}
use Rattle.model.specs.Numbers.{each, picked}
use Rattle.model.proofs.Tests.{cases, first, second, ltb-true, ltb-false, lt-ltb, le-ltb}
use Rattle.events.specs.Chains.{Nearest}
use Rattle.events.specs.Links.{along, rising}
use Rattle.events.specs.declared.Linked.{Linked}
use Rattle.std.proofs.Common.{Option, Some, None, map-id}
use Rattle.std.specs.Iterator.{YieldsFirst, Yields}
use Rattle.std.proofs.lemmas.Iterator.{YieldsList}
use Rattle.std.proofs.lemmas.Iterator.Consumers.{YieldsList-from_first, YieldsList-turn, YieldsList-end}
use Rattle.std.proofs.lemmas.Grind.{get_or_default_zero}
use Rattle.model.proofs.Picked.{picked_below}
use Rattle.events.proofs.Order.{picked_skip, picked_more}

module _ (links : List ℕ) (n : ℕ) where
  abbrev up : ℕ → Bool
  up a = ltb a (get_or links a 0)

  -- from n on there is none
  pub along_none : (k m : ℕ) → n ≤ m → along links n k m ≡ []
  unfolding along
  along_none zero m h = refl
  along_none (suc k) m h = rw (le-ltb m n h)

  along_here : (k m : ℕ) → m < n → along links n (suc k) m ≡ m ∷ along links n k (get_or links m 0)
  unfolding along
  along_here k m h = rw (lt-ltb m n h)

  up_here : (k m : ℕ) → m < n → list_all up (along links n (suc k) m) ≡ true → (up m && list_all up (along links n k (get_or links m 0))) ≡ true
  up_here k m h r = rw (along_here k m h) at r

  -- as many as are below n are enough
  along_more : (k m : ℕ) → n ≤ k + m → list_all up (along links n k m) ≡ true → along links n k m ≡ along links n (suc k) m
  along_more zero m h r = along_none zero m (omega arith) ∙ sym (along_none 1 m (omega arith))
  along_more (suc k) m h r =
      cases (ltb m n)
      (λ t.
      let l : m < n = ltb-true m n t in
      let b = up_here k m l r in
      let m' : ℕ = get_or links m 0 in
      let a : m < m' = ltb-true m m' (first (up m) (list_all up (along links n k m')) b) in
      along_here k m l ∙ ap (λ (x : List ℕ). m ∷ x) (along_more k m' (omega arith) (second (up m) (list_all up (along links n k m')) b)) ∙ sym (along_here (suc k) m l))
      (λ t. let l : n ≤ m = ltb-false m n t in along_none (suc k) m l ∙ sym (along_none (suc (suc k)) m l))

  module _ (m : ℕ) (l : m < n) (r : rising links n m ≡ true) where
    pub one_on : (along links n n m ≡ m ∷ along links n n (get_or links m 0)) × (rising links n (get_or links m 0) ≡ true)
    unfolding rising
    one_on =
        let k : ℕ = n - 1 in
        let q : n ≡ suc k = omega arith in
        let m' : ℕ = get_or links m 0 in
        let r' : list_all up (along links n (suc k) m) ≡ true = sym (ap (λ (j : ℕ). list_all up (along links n j m)) q) ∙ r in
        let b = up_here k m l r' in
        let a : m < m' = ltb-true m m' (first (up m) (list_all up (along links n k m')) b) in
        let t : list_all up (along links n k m') ≡ true = second (up m) (list_all up (along links n k m')) b in
        let e : along links n k m' ≡ along links n n m' = along_more k m' (omega arith) t ∙ sym (ap (λ (j : ℕ). along links n j m') q) in
        (ap (λ (j : ℕ). along links n j m) q ∙ along_here k m l ∙ ap (λ (x : List ℕ). m ∷ x) e, sym (ap (list_all up) e) ∙ t)

  -- each link leads to the nearest number that passes the test
  module _ (p : ℕ → Bool) (to_nearest : (a : ℕ) → a < n → p a ≡ true → Nearest p n (a + 1) (get_or links a 0)) where
    rises : (k m : ℕ) → (m < n → p m ≡ true) → list_all up (along links n k m) ≡ true
    unfolding along
    rises zero m h = refl
    rises (suc k) m h =
        cases (ltb m n)
        (λ t.
        let l : m < n = ltb-true m n t in
        let b = to_nearest m l (h l) in
        rw (along_here k m l, lt-ltb m (get_or links m 0) (omega (arith, b.low))) (rises k (get_or links m 0) b.hit))
        (λ t. rw (along_none (suc k) m (ltb-false m n t)))

    pub all_rising : (m : ℕ) → (m < n → p m ≡ true) → rising links n m ≡ true
    unfolding rising
    all_rising m h = rises n m h

    picked_from : (k m : ℕ) → n ≤ k + m → m ≤ n → (m < n → p m ≡ true) → picked p m ++ along links n k m ≡ picked p n
    picked_from zero m g b h =
        let q : m ≡ n = omega arith in
        rw (along_none zero m (omega arith), append-nil, q)
    picked_from (suc k) m g b h =
        cases (ltb m n)
        (λ t.
        let l : m < n = ltb-true m n t in
        let r = to_nearest m l (h l) in
        rw (along_here k m l, ← append_assoc (picked p m) (m ∷ []) (along links n k (get_or links m 0)), ← picked_more p m (h l), ← picked_skip p n (m + 1) (get_or links m 0) r)
        (picked_from k (get_or links m 0) (omega (arith, r.low)) r.high r.hit))
        (λ t.
        let q : m ≡ n = omega (arith, ltb-false m n t) in
        rw (along_none (suc k) m (omega arith), append-nil, q))

    -- from the first on they are all that pass the test
    pub all_picked : (m : ℕ) → Nearest p n 0 m → along links n n m ≡ picked p n
    unfolding picked each
    all_picked m r = let e = picked_from n m (omega arith) r.high r.hit in rw (picked_skip p n 0 m r) at e

-- ---- the walk

-- what is left of it
abbrev pub left : Linked → List ℕ
left s = along s.links.now s.end s.end s.next

module _ (p : ℕ → Bool) (n : ℕ) (s : Linked) (q : left s ≡ picked p n) (xs : List ℕ) (t : Linked) (y : Yields (YieldsFirst left) s xs t) (r : Option ℕ) (u : Linked) (g : YieldsFirst left t r u) where
  walk : YieldsList (YieldsFirst left) (λ x. x) s (picked p n)
  walk = YieldsList-from_first (λ x. x) left (picked p n) q

  -- it has yielded less than all, and what it yields is below n
  pub one_more : (x : ℕ) → r ≡ Some x → (length xs < length (picked p n)) × (x < n)
  one_more x k =
      let t = YieldsList-turn walk xs t y r u x k g in
      (t.0, subst (λ (a : ℕ). a < n) (sym (t.1 ∙ get_or_default_zero (picked p n) (length xs) x t.0)) (picked_below p n (length xs) t.0))

  -- at the end it has yielded all
  pub no_more : r ≡ None → xs ≡ picked p n
  no_more k = sym (map-id xs) ∙ (YieldsList-end walk xs t y r u k g).0
