-- Lists in which each number below n stands once: places, and sums and counts over them as those over the numbers.
-- Assumes nothing.
use Prim.Native.Nat.{ℕ, zero, suc, ◌+◌, ◌*◌, ◌≤◌, ◌<◌, zero-le}
use mathlib.Core.Path.{◌≡◌, refl, sym, ap, ◌∙◌}
use mathlib.Core.Bool.{Bool, true, false, cond, ◌&&◌}
use mathlib.Core.List.{List, [], ◌∷◌, map}
use native.Mathlib.Nat.{not-suc-le-zero, le_of_suc-le-suc, mul-zero, mul-one, mul-add, zero-mul, one-mul}
use native.Mathlib.Omega.{arith}
use lib.Dec.{ltb, eqb, leb-suc-suc}
use lib.ListN.{length, get_or, take}
use Rattle.model.specs.Numbers.{bit, sum, tally, count}
use Rattle.model.specs.Orders.{place, occurrences}
use Rattle.model.proofs.Tests.{cases, bits, bit_true, bit_false, bit_pos, eqb-true, eq-eqb, lt-ltb, le-ltb, ltb-true, ltb-false}
use Rattle.model.proofs.Sum.{sum_ext, sum_add, sum_single, sum_nothing}

pub take-map : {A B : Type 0} (g : A → B) (i : ℕ) (l : List A) → take i (map g l) ≡ map g (take i l)
take-map g zero l = refl
take-map g (suc i) [] = refl
take-map g (suc i) (x ∷ l) = ap (λ (m : List _). g x ∷ m) (take-map g i l)

pub at_map : {A B : Type 0} (g : A → B) (i : ℕ) (l : List A) (a : A) (b : B) → i < length l → get_or (map g l) i b ≡ g (get_or l i a)
at_map g i [] a b h = absurd (not-suc-le-zero h)
at_map g zero (x ∷ l) a b h = refl
at_map g (suc i) (x ∷ l) a b h = at_map g i l a b (le_of_suc-le-suc h)

-- ---- places

pub place_here : (e x : ℕ) (o : List ℕ) → eqb e x ≡ true → place (x ∷ o) e ≡ 0
unfolding place
place_here e x o t = rw t

pub place_there : (e x : ℕ) (o : List ℕ) → eqb e x ≡ false → place (x ∷ o) e ≡ suc (place o e)
unfolding place
place_there e x o t = rw t

take_none : (e i : ℕ) (o : List ℕ) → occurrences e o ≡ 0 → occurrences e (take i o) ≡ 0
unfolding count
take_none e zero o h = refl
take_none e (suc i) [] h = refl
take_none e (suc i) (x ∷ o) h = let k = take_none e i o (omega arith) in omega arith

-- where e stands once it is among the first i exactly if its place is below i
take_once : (e i : ℕ) (o : List ℕ) → occurrences e o ≡ 1 → occurrences e (take i o) ≡ bit (ltb (place o e) i)
unfolding count
take_once e zero o h = sym (bit_false (le-ltb (place o e) 0 zero-le))
take_once e (suc i) [] h = absurd (omega arith)
take_once e (suc i) (x ∷ o) h =
    cases (eqb e x)
    (λ t.
    let b = take_none e i o (omega bits) in
    let p = place_here e x o t in
    let c = bit_true (lt-ltb (place (x ∷ o) e) (suc i) (omega arith)) in omega bits)
    (λ t.
    let b = take_once e i o (omega bits) in
    let p : ltb (place (x ∷ o) e) (suc i) ≡ ltb (place o e) i = rw (place_there e x o t) (leb-suc-suc (suc (place o e)) i) in
    let c = ap bit p in omega bits)

pub place_lt : (e : ℕ) (o : List ℕ) → 0 < occurrences e o → place o e < length o
unfolding count
place_lt e [] h = absurd (not-suc-le-zero h)
place_lt e (x ∷ o) h =
    cases (eqb e x) (λ t. let p = place_here e x o t in omega arith)
    (λ t. let p = place_there e x o t in let k = place_lt e o (omega bits) in omega arith)

pub at_place : (e : ℕ) (o : List ℕ) → 0 < occurrences e o → get_or o (place o e) 0 ≡ e
unfolding count
at_place e [] h = absurd (not-suc-le-zero h)
at_place e (x ∷ o) h =
    cases (eqb e x) (λ t. rw (place_here e x o t) (sym (eqb-true e x t))) (λ t. rw (place_there e x o t) (at_place e o (omega bits)))

pub at_occurs : (o : List ℕ) (i : ℕ) → i < length o → 0 < occurrences (get_or o i 0) o
unfolding count
at_occurs [] i h = absurd (not-suc-le-zero h)
at_occurs (x ∷ o) zero h = let b = bit_true (eq-eqb x x refl) in omega arith
at_occurs (x ∷ o) (suc i) h = let k = at_occurs o i (le_of_suc-le-suc h) in omega arith

-- the place of the element at i, where it stands once
place_at : (o : List ℕ) (i : ℕ) → i < length o → occurrences (get_or o i 0) o ≡ 1 → place o (get_or o i 0) ≡ i
unfolding count
place_at [] i h k = absurd (not-suc-le-zero h)
place_at (x ∷ o) zero h k = place_here x x o (eq-eqb x x refl)
place_at (x ∷ o) (suc i) h k =
    cases (eqb (get_or o i 0) x) (λ t. let b = at_occurs o i (le_of_suc-le-suc h) in absurd (omega bits))
    (λ t. place_there (get_or o i 0) x o t ∙ ap suc (place_at o i (le_of_suc-le-suc h) (omega bits)))

-- ---- sums over a list

unfoldable pub sum_over : (ℕ → ℕ) → List ℕ → ℕ
sum_over f [] = 0
sum_over f (x ∷ l) = f x + sum_over f l

-- over a list of numbers below n, number by number
over_by : (f : ℕ → ℕ) (n : ℕ) (l : List ℕ) → ((e : ℕ) → n ≤ e → occurrences e l ≡ 0) → sum_over f l ≡ sum (λ e. f e * occurrences e l) n
unfolding count sum_over
over_by f n [] h = sym (sum_nothing (λ e. f e * 0) n (λ e l. mul-zero (f e)))
over_by f n (x ∷ l) h =
    let ih = over_by f n l (λ e k. let z = h e k in omega arith) in
    let one = sum_single f x n inside in
    let s = sum_add (λ e. cond (eqb e x) (f e) 0) (λ e. f e * occurrences e l) n in
    let t = sum_ext (λ e. cond (eqb e x) (f e) 0 + f e * occurrences e l) (λ e. f e * occurrences e (x ∷ l)) n
    (λ e k. term (f e) (eqb e x) (occurrences e l)) in
    omega arith
  where
    inside : x < n
    inside =
        cases (ltb x n) (λ t. ltb-true x n t)
        (λ t. let z = h x (ltb-false x n t) in let b = bit_true (eq-eqb x x refl) in absurd (omega arith))

    term : (k : ℕ) (b : Bool) (m : ℕ) → cond b k 0 + k * m ≡ k * (bit b + m)
    term k true m = let x = mul-add k 1 m in let y = mul-one k in omega arith
    term k false m = let x = mul-add k 0 m in let y = mul-zero k in omega arith

count_over : (p : ℕ → Bool) (l : List ℕ) → count p l ≡ sum_over (λ e. bit (p e)) l
unfolding count sum_over
count_over p [] = refl
count_over p (x ∷ l) = ap (λ (n : ℕ). bit (p x) + n) (count_over p l)

length_over : (l : List ℕ) → length l ≡ sum_over (λ e. 1) l
unfolding sum_over
length_over [] = refl
length_over (x ∷ l) = let h = length_over l in omega arith

pub sum_ones : (n : ℕ) → sum (λ e. 1) n ≡ n
unfolding sum
sum_ones zero = refl
sum_ones (suc n) = let h = sum_ones n in omega arith

module _ (n : ℕ) (o : List ℕ) (once : (e : ℕ) → occurrences e o ≡ bit (ltb e n)) where
  pub stands : (e : ℕ) → e < n → occurrences e o ≡ 1
  stands e l = once e ∙ bit_true (lt-ltb e n l)

  -- a count over the first i elements
  pub count_take : (p : ℕ → Bool) (i : ℕ) → count p (take i o) ≡ tally (λ e. p e && ltb (place o e) i) n
  count_take p i =
      count_over p (take i o)
      ∙ over_by (λ e. bit (p e)) n (take i o) (λ e l. take_none e i o (once e ∙ bit_false (le-ltb e n l)))
      ∙ sum_ext (λ e. bit (p e) * occurrences e (take i o)) (λ e. bit (p e && ltb (place o e) i)) n
      (λ e l. ap (λ (m : ℕ). bit (p e) * m) (take_once e i o (stands e l)) ∙ term (p e) (ltb (place o e) i))
    where
      term : (a b : Bool) → bit a * bit b ≡ bit (a && b)
      term true b = one-mul (bit b)
      term false b = zero-mul (bit b)

  -- a sum over all elements
  pub over_once : (f : ℕ → ℕ) → sum_over f o ≡ sum f n
  over_once f =
      over_by f n o (λ e l. once e ∙ bit_false (le-ltb e n l))
      ∙ sum_ext (λ e. f e * occurrences e o) f n (λ e l. ap (λ (m : ℕ). f e * m) (stands e l) ∙ mul-one (f e))

  pub length_once : length o ≡ n
  length_once = length_over o ∙ over_once (λ e. 1) ∙ sum_ones n

  pub place_inj : (a b : ℕ) → a < n → b < n → place o a ≡ place o b → a ≡ b
  place_inj a b k l e =
      let s = stands a k in
      let t = stands b l in
      sym (at_place a o (omega arith)) ∙ ap (λ (i : ℕ). get_or o i 0) e ∙ at_place b o (omega arith)

  -- each element is below n, and its place is where it stands
  pub element : (i : ℕ) → i < length o → (get_or o i 0 < n) × (place o (get_or o i 0) ≡ i)
  element i l =
      let occurs = at_occurs o i l in
      let inside = ltb-true (get_or o i 0) n (bit_pos _ (let z = once (get_or o i 0) in omega arith)) in
      (inside, place_at o i l (stands (get_or o i 0) inside))
