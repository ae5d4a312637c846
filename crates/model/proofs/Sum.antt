-- Laws of sums and tallies over the numbers below n.
-- Assumes nothing.
use Prim.Native.Nat.{ℕ, zero, suc, ◌+◌, ◌*◌, ◌≤◌, ◌<◌, min, zero-le}
use mathlib.Core.Path.{◌≡◌, refl, sym, ap, ap₂, subst, ◌∙◌}
use mathlib.Core.Bool.{Bool, true, false, cond, not, ◌&&◌}
use native.Mathlib.Nat.{le_refl, le_of_eq, add-le-add, not-suc-le-zero, suc-mul}
use native.Mathlib.Omega.{arith}
use lib.Dec.{ltb, eqb}
use Rattle.model.specs.Numbers.{bit, sum, tally}
use Rattle.model.proofs.Tests.{cases, to_not, both, first, and_true, and_fails, bit_false, bit_le, tests, bits, compared, last_or_lower, eqb-true, eq-eqb, ne_eqb, lt-ltb, le-ltb, bit_true, ltb-true, ltb-false}

-- ---- sums

pub sum_le : (f g : ℕ → ℕ) (n : ℕ) → ((e : ℕ) → e < n → f e ≤ g e) → sum f n ≤ sum g n
unfolding sum
sum_le f g zero h = zero-le
sum_le f g (suc n) h = add-le-add (sum_le f g n (λ e l. h e (omega arith))) (h n (le_refl (suc n)))

pub sum_ext : (f g : ℕ → ℕ) (n : ℕ) → ((e : ℕ) → e < n → f e ≡ g e) → sum f n ≡ sum g n
unfolding sum
sum_ext f g zero h = refl
sum_ext f g (suc n) h = ap₂ (λ (x y : ℕ). x + y) (sum_ext f g n (λ e l. h e (omega arith))) (h n (le_refl (suc n)))

pub sum_add : (f g : ℕ → ℕ) (n : ℕ) → sum (λ e. f e + g e) n ≡ sum f n + sum g n
unfolding sum
sum_add f g zero = refl
sum_add f g (suc n) = let ih = sum_add f g n in omega arith

pub sum_nothing : (f : ℕ → ℕ) (n : ℕ) → ((e : ℕ) → e < n → f e ≡ 0) → sum f n ≡ 0
unfolding sum
sum_nothing f zero h = refl
sum_nothing f (suc n) h = let a = sum_nothing f n (λ e l. h e (omega arith)) in let b = h n (le_refl (suc n)) in omega arith

pub sum_grow : (f : ℕ → ℕ) (m n : ℕ) → m ≤ n → sum f m ≤ sum f n
unfolding sum
sum_grow f m zero h = le_of_eq (ap (sum f) (let z : m ≡ 0 = omega arith in z))
sum_grow f m (suc n) h =
    cases (eqb m (suc n)) (λ t. le_of_eq (ap (sum f) (eqb-true m (suc n) t)))
    (λ t. let k = sum_grow f m n (omega tests) in omega arith)

-- one term alone
pub sum_single : (f : ℕ → ℕ) (x n : ℕ) → x < n → sum (λ e. cond (eqb e x) (f e) 0) n ≡ f x
unfolding sum
sum_single f x zero h = absurd (not-suc-le-zero h)
sum_single f x (suc n) h =
    last_or_lower h
    (λ e.
    let z = sum_nothing (λ e. cond (eqb e x) (f e) 0) n (λ d l. apart d (λ q. omega arith)) in
    let y : cond (eqb n x) (f n) 0 ≡ f n = rw (eq-eqb n x (sym e)) in
    let w = ap f e in omega arith)
    (λ l. let y = sum_single f x n l in let z = apart n (λ q. omega arith) in omega arith)
  where
    apart : (e : ℕ) → ¬ (e ≡ x) → cond (eqb e x) (f e) 0 ≡ 0
    apart e d = rw (ne_eqb e x d)

pub sum_bound : (f : ℕ → ℕ) (c n : ℕ) → ((e : ℕ) → e < n → f e ≤ c) → sum f n ≤ n * c
unfolding sum
sum_bound f c zero h = zero-le
sum_bound f c (suc n) h =
    let a = sum_bound f c n (λ e l. h e (omega arith)) in
    let b = h n (le_refl (suc n)) in
    let m = suc-mul n c in omega arith

-- terms that are at most others with no larger sum are equal to them
pub sum_equal : (f g : ℕ → ℕ) (n : ℕ) → ((e : ℕ) → e < n → f e ≤ g e) → sum g n ≤ sum f n → (e : ℕ) → e < n → f e ≡ g e
unfolding sum
sum_equal f g zero h q e l = absurd (not-suc-le-zero l)
sum_equal f g (suc n) h q e l =
    let a = sum_le f g n (λ e l. h e (omega arith)) in
    let b = h n (le_refl (suc n)) in
    last_or_lower l (λ d. subst (λ (x : ℕ). f x ≡ g x) (sym d) (omega arith))
    (λ k. sum_equal f g n (λ e l. h e (omega arith)) (omega arith) e k)

-- ---- tallies

pub tally_le : (p q : ℕ → Bool) (n : ℕ) → ((e : ℕ) → e < n → p e ≡ true → q e ≡ true) → tally p n ≤ tally q n
tally_le p q n h = sum_le (λ e. bit (p e)) (λ e. bit (q e)) n (λ e l. bit_le (p e) (q e) (h e l))

pub tally_ext : (p q : ℕ → Bool) (n : ℕ) → ((e : ℕ) → e < n → p e ≡ q e) → tally p n ≡ tally q n
tally_ext p q n h = sum_ext (λ e. bit (p e)) (λ e. bit (q e)) n (λ e l. ap bit (h e l))

pub tally_grow : (p : ℕ → Bool) (m n : ℕ) → m ≤ n → tally p m ≤ tally p n
tally_grow p m n h = sum_grow (λ e. bit (p e)) m n h

pub tally_zero : (p : ℕ → Bool) (n : ℕ) → ((e : ℕ) → e < n → p e ≡ false) → tally p n ≡ 0
tally_zero p n h = sum_nothing (λ e. bit (p e)) n (λ e l. bit_false (h e l))

-- a tally that is larger has a number of its own
pub tally_more : (p q : ℕ → Bool) (n : ℕ) → tally q n < tally p n → (c : ℕ) × (c < n) × (p c ≡ true) × (q c ≡ false)
unfolding sum
tally_more p q zero h = absurd (not-suc-le-zero h)
tally_more p q (suc n) h =
    cases (p n) (λ a. cases (q n) (λ b. up (tally_more p q n (omega bits))) (λ b. (n, le_refl (suc n), a, b)))
    (λ a. cases (q n) (λ b. up (tally_more p q n (omega bits))) (λ b. up (tally_more p q n (omega bits))))
  where
    up : (c : ℕ) × (c < n) × (p c ≡ true) × (q c ≡ false) → (c : ℕ) × (c < suc n) × (p c ≡ true) × (q c ≡ false)
    up (c, l, a, b) = (c, omega arith, a, b)

pub tally_hit : (p : ℕ → Bool) (n : ℕ) → 0 < tally p n → (c : ℕ) × (c < n) × (p c ≡ true)
tally_hit p n h =
    let z = sum_nothing (λ e. 0) n (λ e l. refl) in
    let (c, l, a, b) = tally_more p (λ e. false) n (omega arith) in (c, l, a)

pub tally_has : (p : ℕ → Bool) (n c : ℕ) → c < n → p c ≡ true → 0 < tally p n
unfolding sum
tally_has p n c l a = let g = tally_grow p (suc c) n l in omega bits

pub tally_none : {X : Type 0} (p : ℕ → Bool) (n c : ℕ) → tally p n ≡ 0 → c < n → p c ≡ true → X
tally_none p n c z l a = absurd (let h = tally_has p n c l a in omega arith)

-- a test passed on every number that passes another, and on one more
pub tally_lt : (p q : ℕ → Bool) (n x : ℕ) → ((e : ℕ) → e < n → p e ≡ true → q e ≡ true) → x < n → p x ≡ false → q x ≡ true → tally p n < tally q n
tally_lt p q n x h l a b =
    let one = sum_single (λ e. 1) x n l in
    let s = sum_add (λ e. bit (p e)) (λ e. cond (eqb e x) 1 0) n in
    let le = sum_le (λ e. bit (p e) + cond (eqb e x) 1 0) (λ e. bit (q e)) n term in
    omega arith
  where
    term : (e : ℕ) → e < n → bit (p e) + cond (eqb e x) 1 0 ≤ bit (q e)
    term e m =
        cases (eqb e x)
        (λ t. rw (t, ap p (eqb-true e x t) ∙ a, ap q (eqb-true e x t) ∙ b) (le_refl 1))
        (λ t. rw t (let k = bit_le (p e) (q e) (h e m) in omega arith))

-- only the numbers below m count
pub tally_cut : (q : ℕ → Bool) (m n : ℕ) → m ≤ n → tally (λ a. q a && ltb a m) n ≡ tally q m
unfolding sum
tally_cut q m zero h = ap (tally q) (let z : 0 ≡ m = omega arith in z)
tally_cut q m (suc n) h =
    cases (eqb m (suc n))
    (λ t.
    let e = eqb-true m (suc n) t in
    tally_ext (λ a. q a && ltb a m) q (suc n) (λ a l. rw (lt-ltb a m (omega arith)) (and_true (q a))) ∙ ap (tally q) (sym e))
    (λ t.
    let k = tally_cut q m n (omega tests) in
    let z = bit_false (and_fails (q n) (le-ltb n m (omega tests))) in omega arith)

-- those that pass a second test, and those that do not
pub tally_split : (p q : ℕ → Bool) (n : ℕ) → tally p n ≡ tally (λ e. p e && q e) n + tally (λ e. p e && not (q e)) n
tally_split p q n =
    sum_ext (λ e. bit (p e)) (λ e. bit (p e && q e) + bit (p e && not (q e))) n (λ e l. term (p e) (q e))
    ∙ sum_add (λ e. bit (p e && q e)) (λ e. bit (p e && not (q e))) n
  where
    term : (a b : Bool) → bit a ≡ bit (a && b) + bit (a && not b)
    term true true = refl
    term true false = refl
    term false b = refl

-- ---- ranks

-- those of rank below k are k, or all where they are fewer
pub tally_first : (p : ℕ → Bool) (k n : ℕ) → tally (λ a. p a && ltb (tally p a) k) n ≡ min k (tally p n)
unfolding sum
tally_first p k zero = omega arith
tally_first p k (suc n) =
    let h = tally_first p k n in
    cases (p n)
    (λ t.
    cases (ltb (tally p n) k) (λ u. let b = bit_true (both t u) in let c = ltb-true (tally p n) k u in omega bits)
    (λ u. let b = bit_false (and_fails (p n) u) in let c = ltb-false (tally p n) k u in omega bits))
    (λ t. let b : bit (p n && ltb (tally p n) k) ≡ 0 = rw t in omega bits)

-- the number of rank k among those that pass
pub ranked : (p : ℕ → Bool) (n k : ℕ) → k < tally p n → (s : ℕ) × (s < n) × (p s ≡ true) × (tally p s ≡ k)
unfolding sum
ranked p zero k h = absurd (not-suc-le-zero h)
ranked p (suc n) k h =
    cases (ltb k (tally p n)) (λ a. let (s, l, t, r) = ranked p n k (omega tests) in (s, omega arith, t, r))
    (λ a.
    let q : tally p n ≤ k = omega tests in
    cases (p n) (λ b. (n, le_refl (suc n), b, omega bits)) (λ b. absurd (omega bits)))

pub rank_rises : (p : ℕ → Bool) (a b : ℕ) → a < b → p a ≡ true → tally p a < tally p b
unfolding sum
rank_rises p a b l t = let g = tally_grow p (suc a) b l in omega bits

pub rank_same : (p : ℕ → Bool) (a b : ℕ) → p a ≡ true → p b ≡ true → tally p a ≡ tally p b → a ≡ b
rank_same p a b s t e =
    compared a b (λ l. let h = rank_rises p a b l s in omega arith) (λ q. q) (λ l. let h = rank_rises p b a l t in omega arith)

-- numbers that are each given one of their own are no more than those given
pub tally_inject : (M : ℕ → ℕ → Type 0) → ((a b s : ℕ) → M a s → M b s → a ≡ b) → (p q : ℕ → Bool) (m n : ℕ)
    → ((a : ℕ) → a < m → p a ≡ true → (s : ℕ) × (s < n) × (q s ≡ true) × M a s) → tally p m ≤ tally q n
unfolding sum
tally_inject M inj p q zero n give = zero-le
tally_inject M inj p q (suc m) n give =
    cases (p m)
    (λ t.
    let (s, l, u, v) = give m (le_refl (suc m)) t in
    let h = tally_inject M inj p (λ c. q c && not (eqb c s)) m n (λ a k w.
    let (r, i, j, y) = give a (omega arith) w in
    (r, i, both j (to_not (ne_eqb r s (λ e. let z = inj a m s (subst (λ (d : ℕ). M a d) e y) v in omega arith))), y)) in
    let less = tally_lt (λ c. q c && not (eqb c s)) q n s (λ c k w. first (q c) _ w) l
    (and_fails (q s) (ap not (eq-eqb s s refl))) u in
    omega bits)
    (λ t. let h = tally_inject M inj p q m n (λ a l k. give a (omega arith) k) in omega bits)
