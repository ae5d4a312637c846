-- The k-th least: fewer than k numbers lie below it and at least k do not exceed it, so that of any k of the numbers one is
-- at least as large. And the largest of some numbers.
-- Assumes nothing.
use Prim.Native.Nat.{ℕ, zero, suc, ◌+◌, ◌≤◌, ◌<◌, max, zero-le}
use mathlib.Core.Path.{◌≡◌, refl, sym, ap, ap₂, subst, ◌∙◌}
use mathlib.Core.Bool.{Bool, true}
use mathlib.Core.List.{List, [], ◌∷◌, map, Memᴰ}
use native.Mathlib.Nat.{le_of_suc-le-suc, not-suc-le-zero, max-eq_left, max-eq_right}
use native.Mathlib.Omega.{arith}
use lib.Dec.{leb, ltb}
use lib.ListN.{length, get_or, get_or-eq_default}
use Rattle.model.specs.Numbers.{bit, count, largest, insert, sort, kth_least}
use Rattle.model.proofs.Tests.{cases, bits, tests, bit_le, leb-true, leb-false, ltb-true, ltb-false, le-leb, lt-leb}
use Rattle.model.proofs.Counting.{count_map, count_le, count_length, count_none, count_more}

-- how many of the numbers are at most v, and how many lie below it
abbrev pub at_most : ℕ → List ℕ → ℕ
at_most v l = count (λ x. leb x v) l

abbrev pub below : ℕ → List ℕ → ℕ
below v l = count (λ x. ltb x v) l

-- ---- sorting

-- every number of the list is at least x
abbrev AllGe : ℕ → List ℕ → Type 0
AllGe x [] = Unit {0}
AllGe x (y ∷ l) = (x ≤ y) × AllGe x l

abbrev Sorted : List ℕ → Type 0
Sorted [] = Unit {0}
Sorted (y ∷ l) = AllGe y l × Sorted l

all_ge_trans : (x y : ℕ) (l : List ℕ) → x ≤ y → AllGe y l → AllGe x l
all_ge_trans x y [] h g = tt
all_ge_trans x y (z ∷ l) h g = (omega arith, all_ge_trans x y l h g.1)

all_ge_at : (x : ℕ) (l : List ℕ) (j : ℕ) → AllGe x l → j < length l → x ≤ get_or l j 0
all_ge_at x [] j g h = absurd (not-suc-le-zero h)
all_ge_at x (y ∷ l) zero g h = g.0
all_ge_at x (y ∷ l) (suc j) g h = all_ge_at x l j g.1 (le_of_suc-le-suc h)

all_ge_insert : (x z : ℕ) (l : List ℕ) → x ≤ z → AllGe x l → AllGe x (insert z l)
unfolding insert
all_ge_insert x z [] h g = (h, tt)
all_ge_insert x z (y ∷ l) h g = cases (leb z y) (λ t. rw t (h, g)) (λ t. rw t (g.0, all_ge_insert x z l h g.1))

sorted_insert : (x : ℕ) (l : List ℕ) → Sorted l → Sorted (insert x l)
unfolding insert
sorted_insert x [] s = (tt, tt)
sorted_insert x (y ∷ l) s =
    cases (leb x y) (λ t. rw t ((leb-true x y t, all_ge_trans x y l (leb-true x y t) s.0), s))
    (λ t. rw t (all_ge_insert y x l (omega tests) s.0, sorted_insert x l s.1))

sort_sorted : (l : List ℕ) → Sorted (sort l)
unfolding sort
sort_sorted [] = tt
sort_sorted (x ∷ l) = sorted_insert x (sort l) (sort_sorted l)

-- sorting keeps what is counted
insert_count : (p : ℕ → Bool) (x : ℕ) (l : List ℕ) → count p (insert x l) ≡ bit (p x) + count p l
unfolding insert count
insert_count p x [] = refl
insert_count p x (y ∷ l) = let h = insert_count p x l in cases (leb x y) (λ t. rw t) (λ t. rw t (omega arith))

sort_count : (p : ℕ → Bool) (l : List ℕ) → count p (sort l) ≡ count p l
unfolding sort count
sort_count p [] = refl
sort_count p (x ∷ l) = insert_count p x (sort l) ∙ ap (λ (n : ℕ). bit (p x) + n) (sort_count p l)

insert-length : (x : ℕ) (l : List ℕ) → length (insert x l) ≡ suc (length l)
unfolding insert
insert-length x [] = refl
insert-length x (y ∷ l) = let h = insert-length x l in cases (leb x y) (λ t. rw t) (λ t. rw t (ap suc h))

sort-length : (l : List ℕ) → length (sort l) ≡ length l
unfolding sort
sort-length [] = refl
sort-length (x ∷ l) = insert-length x (sort l) ∙ ap suc (sort-length l)

none_at_most : (v x : ℕ) (l : List ℕ) → v < x → AllGe x l → at_most v l ≡ 0
unfolding count
none_at_most v x [] h g = refl
none_at_most v x (y ∷ l) h g = let r = none_at_most v x l h g.1 in let t = lt-leb y v (omega arith) in omega bits

-- of a sorted list: j + 1 numbers are at most v where the one at j is, and at most j where it is not
sorted_reach : (v : ℕ) (l : List ℕ) (j : ℕ) → Sorted l → j < length l → get_or l j 0 ≤ v → j < at_most v l
unfolding count
sorted_reach v [] j s h g = absurd (not-suc-le-zero h)
sorted_reach v (y ∷ l) zero s h g = let t = le-leb y v g in omega bits
sorted_reach v (y ∷ l) (suc j) s h g =
    let low = all_ge_at y l j s.0 (le_of_suc-le-suc h) in
    let t = le-leb y v (omega arith) in
    let r = sorted_reach v l j s.1 (le_of_suc-le-suc h) g in omega bits

sorted_short : (v : ℕ) (l : List ℕ) (j : ℕ) → Sorted l → j < length l → v < get_or l j 0 → at_most v l ≤ j
unfolding count
sorted_short v [] j s h g = absurd (not-suc-le-zero h)
sorted_short v (y ∷ l) zero s h g = let t = lt-leb y v g in let r = none_at_most v y l g s.0 in omega bits
sorted_short v (y ∷ l) (suc j) s h g =
    let r = sorted_short v l j s.1 (le_of_suc-le-suc h) g in
    let b = bit_le (leb y v) true (λ _. refl) in omega arith

-- ---- the k-th least

pub kth_zero : (l : List ℕ) → kth_least 0 l ≡ 0
unfolding kth_least
kth_zero l = refl

-- fewer than k numbers raise nothing
pub kth_few : (k : ℕ) (l : List ℕ) → length l < k → kth_least k l ≡ 0
unfolding kth_least
kth_few zero l h = refl
kth_few (suc k) l h = let n = sort-length l in get_or-eq_default (sort l) 0 (omega arith)

-- where at least k numbers are at most v, so is the k-th least
pub kth_le : (k : ℕ) (l : List ℕ) (v : ℕ) → k ≤ at_most v l → kth_least k l ≤ v
unfolding kth_least
kth_le zero l v h = zero-le
kth_le (suc k) l v h =
    let n = sort-length l in
    let c = sort_count (λ x. leb x v) l in
    let m = count_length (λ x. leb x v) l in
    cases (leb (get_or (sort l) k 0) v) (λ t. leb-true _ _ t)
    (λ t. let r = sorted_short v (sort l) k (sort_sorted l) (omega arith) (leb-false (get_or (sort l) k 0) v t) in absurd (omega arith))

-- where fewer than k of at least k numbers are at most v, the k-th least is above v
pub kth_gt : (k : ℕ) (l : List ℕ) (v : ℕ) → k ≤ length l → at_most v l < k → v < kth_least k l
unfolding kth_least
kth_gt zero l v m h = absurd (not-suc-le-zero h)
kth_gt (suc k) l v m h =
    let n = sort-length l in
    let c = sort_count (λ x. leb x v) l in
    cases (leb (get_or (sort l) k 0) v)
    (λ t. let r = sorted_reach v (sort l) k (sort_sorted l) (omega arith) (leb-true (get_or (sort l) k 0) v t) in absurd (omega arith))
    (λ t. leb-false (get_or (sort l) k 0) v t)

-- fewer than k of the numbers lie below the k-th least
pub kth_law : (k : ℕ) (l : List ℕ) → 0 < k → below (kth_least k l) l < k
kth_law k l pos = at (kth_least k l) refl
  where
    at : (v : ℕ) → kth_least k l ≡ v → below v l < k
    at zero e = let z = count_none (λ x. ltb x 0) l (λ x. omega tests) in omega arith
    at (suc v) e =
        cases (ltb (below (suc v) l) k) (λ t. ltb-true _ _ t)
        (λ t.
        let many = ltb-false (below (suc v) l) k t in
        let same = count_le (λ x. ltb x (suc v)) (λ x. leb x v) l (λ x t. omega tests) in
        let low = kth_le k l v (omega arith) in absurd (omega arith))

-- of any k elements that pass, one has a value no less than the k-th least of all values
pub kth_reached : (k : ℕ) (f : ℕ → ℕ) (q : ℕ → Bool) (l : List ℕ) → 0 < k → k ≤ count q l
    → (c : ℕ) × Memᴰ c l × (q c ≡ true) × (kth_least k (map f l) ≤ f c)
kth_reached k f q l pos many =
    let v = kth_least k (map f l) in
    let law = kth_law k (map f l) pos in
    let same = count_map (λ x. ltb x v) f l in
    let (c, m, a, b) = count_more q (λ c. ltb (f c) v) l (omega arith) in
    (c, m, a, ltb-false (f c) v b)

-- ---- the larger of two, and the largest over a list

pub max_with : (P : ℕ → Type 0) (a b : ℕ) → P a → P b → P (max a b)
max_with P a b u v =
    cases (leb a b) (λ t. subst P (sym (max-eq_right (leb-true a b t))) v) (λ t. subst P (sym (max-eq_left (let h : b ≤ a = omega tests in h))) u)

pub largest_with : (P : ℕ → Type 0) (f : ℕ → ℕ) (l : List ℕ) → P 0 → ((x : ℕ) → Memᴰ x l → P (f x)) → P (largest f l)
unfolding largest
largest_with P f [] z h = z
largest_with P f (x ∷ l) z h = max_with P (f x) (largest f l) (h x (Memᴰ.head refl)) (largest_with P f l z (λ y m. h y (Memᴰ.tail m)))

pub largest_has : (f : ℕ → ℕ) {x : ℕ} {l : List ℕ} → Memᴰ x l → f x ≤ largest f l
unfolding largest
largest_has f (Memᴰ.head e) = let h = ap f e in omega arith
largest_has f (Memᴰ.tail m) = let h = largest_has f m in omega arith

pub largest_ext : (f g : ℕ → ℕ) (l : List ℕ) → ((x : ℕ) → Memᴰ x l → f x ≡ g x) → largest f l ≡ largest g l
unfolding largest
largest_ext f g [] h = refl
largest_ext f g (x ∷ l) h = ap₂ (λ (a b : ℕ). max a b) (h x (Memᴰ.head refl)) (largest_ext f g l (λ y m. h y (Memᴰ.tail m)))

-- a positive bound of the largest is a bound of one of them
pub largest_reached : (f : ℕ → ℕ) (v : ℕ) (l : List ℕ) → 0 < v → v ≤ largest f l → (x : ℕ) × Memᴰ x l × (v ≤ f x)
unfolding largest
largest_reached f v [] z h = absurd (omega arith)
largest_reached f v (x ∷ l) z h =
    cases (leb v (f x)) (λ t. (x, Memᴰ.head refl, leb-true v (f x) t))
    (λ t. let q = leb-false v (f x) t in let (y, m, k) = largest_reached f v l z (omega arith) in (y, Memᴰ.tail m, k))
