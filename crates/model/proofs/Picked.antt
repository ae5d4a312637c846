-- The numbers that pass a test, in order: how often each stands there, and where.
-- Assumes nothing.
use Prim.Native.Nat.{ℕ, zero, suc, ◌+◌, ◌≤◌, ◌<◌}
use Rattle.std.specs.Prelude.{Some, None}
use mathlib.Core.Path.{◌≡◌, refl, sym, ap, ap₂, subst, ◌∙◌}
use mathlib.Core.Bool.{Bool, true, false, cond, not, ◌&&◌}
use mathlib.Core.List.{List, [], ◌∷◌, ◌++◌, append-nil, Memᴰ}
use native.Mathlib.Nat.{not-suc-le-zero, zero-add, add-zero}
use native.Mathlib.Omega.{arith}
use lib.Dec.{ltb, eqb}
use lib.ListN.{length, get_or, take, length-append}
use lib.Seq.{take-nil, take_all, take-append-le}
use Rattle.model.specs.Numbers.{bit, sum, tally, count, each, picked, nth}
use Rattle.model.specs.Orders.{place, occurrences}
use Rattle.model.proofs.Tests.{cases, clash, to_not, both, and_true, and_fails, bit_true, bit_false, bit_le, bit_pos, first, second, tests, bits, last_or_lower, eqb-true, eq-eqb, lt-ltb, le-ltb, ltb-true}
use Rattle.model.proofs.Counting.{count_append}
use Rattle.model.proofs.Sum.{sum_bound, ranked, rank_rises}
use Rattle.model.proofs.Each.{each_in, where_in}
use Rattle.model.proofs.Place.{place_lt, place_here, place_there, at_occurs}

mem_occurs : (e : ℕ) (l : List ℕ) → Memᴰ e l → 0 < occurrences e l
unfolding count
mem_occurs e [] h = elim h [ ]
mem_occurs e (x ∷ l) (Memᴰ.head q) = let b = bit_true (eq-eqb e x q) in omega arith
mem_occurs e (x ∷ l) (Memᴰ.tail m) = let h = mem_occurs e l m in omega arith

place_left : (e : ℕ) (l m : List ℕ) → 0 < occurrences e l → place (l ++ m) e ≡ place l e
unfolding count
place_left e [] m h = absurd (not-suc-le-zero h)
place_left e (x ∷ l) m h =
    cases (eqb e x) (λ t. place_here e x (l ++ m) t ∙ sym (place_here e x l t))
    (λ t. place_there e x (l ++ m) t ∙ ap suc (place_left e l m (omega bits)) ∙ sym (place_there e x l t))

place_right : (e : ℕ) (l m : List ℕ) → occurrences e l ≡ 0 → place (l ++ m) e ≡ length l + place m e
unfolding count
place_right e [] m h = sym (zero-add (place m e))
place_right e (x ∷ l) m h =
    cases (eqb e x) (λ t. absurd (omega bits))
    (λ t. let ih = place_right e l m (omega bits) in let q = place_there e x (l ++ m) t in omega arith)

-- ---- the element at a place

nth_left : (l m : List ℕ) (k : ℕ) → k < length l → nth (l ++ m) k ≡ nth l k
unfolding nth
nth_left [] m k h = absurd (not-suc-le-zero h)
nth_left (x ∷ l) m zero h = refl
nth_left (x ∷ l) m (suc k) h = nth_left l m k (omega arith)

nth_at : (l : List ℕ) (x : ℕ) → nth (l ++ x ∷ []) (length l) ≡ Some x
unfolding nth
nth_at [] x = refl
nth_at (y ∷ l) x = nth_at l x

nth_past : (l : List ℕ) (k : ℕ) → length l ≤ k → nth l k ≡ None
unfolding nth
nth_past [] k h = refl
nth_past (x ∷ l) zero h = absurd (omega arith)
nth_past (x ∷ l) (suc k) h = nth_past l k (omega arith)

nth_inside : (l : List ℕ) (k : ℕ) → k < length l → nth l k ≡ Some (get_or l k 0)
unfolding nth
nth_inside [] k h = absurd (not-suc-le-zero h)
nth_inside (x ∷ l) zero h = refl
nth_inside (x ∷ l) (suc k) h = nth_inside l k (omega arith)

nth_at_place : (l : List ℕ) (k x : ℕ) → nth l k ≡ Some x → get_or l k 0 ≡ x
unfolding nth
nth_at_place [] k x q = let z : ◌≡◌ {A = ℕ} 0 1 = cc in absurd (omega arith)
nth_at_place (y ∷ l) zero x q = cc
nth_at_place (y ∷ l) (suc k) x q = nth_at_place l k x q

module _ (p : ℕ → Bool) where
  one : ℕ → List ℕ
  one e = cond (p e) (e ∷ []) []

  picked_suc : (n : ℕ) → picked p (suc n) ≡ picked p n ++ one n
  unfolding picked each one
  picked_suc n = refl

  one_occurs : (e n : ℕ) → occurrences e (one n) ≡ bit (p n && eqb e n)
  unfolding count one
  one_occurs e n = go (p n)
    where
      go : (b : Bool) → occurrences e (cond b (n ∷ []) []) ≡ bit (b && eqb e n)
      go true = add-zero (bit (eqb e n))
      go false = refl

  pub picked_occurs : (e n : ℕ) → occurrences e (picked p n) ≡ bit (p e && ltb e n)
  unfolding picked each count
  picked_occurs e zero = sym (bit_false (and_fails (p e) (le-ltb e 0 (omega arith))))
  picked_occurs e (suc n) =
      let ih = picked_occurs e n in
      let s = ap (count (eqb e)) (picked_suc n) ∙ count_append (eqb e) (picked p n) (one n) in
      let o = one_occurs e n in
      cases (eqb e n)
      (λ t.
      let d = eqb-true e n t in
      let a = bit_false (and_fails (p e) (le-ltb e n (omega arith))) in
      let b : bit (p n && eqb e n) ≡ bit (p e) = rw t (ap bit (and_true (p n) ∙ ap p (sym d))) in
      let c : bit (p e && ltb e (suc n)) ≡ bit (p e) = rw (lt-ltb e (suc n) (omega arith)) (ap bit (and_true (p e))) in
      omega arith)
      (λ t.
      let b = bit_false (and_fails (p n) t) in
      let c : bit (p e && ltb e n) ≡ bit (p e && ltb e (suc n)) = ap (λ (x : Bool). bit (p e && x)) (beyond e n t) in
      omega arith)
    where
      beyond : (e n : ℕ) → eqb e n ≡ false → ltb e n ≡ ltb e (suc n)
      beyond e n t = cases (ltb e n) (λ q. q ∙ sym (lt-ltb e (suc n) (omega tests))) (λ q. q ∙ sym (le-ltb e (suc n) (omega tests)))

  picked_has : (e n : ℕ) → e < n → p e ≡ true → 0 < occurrences e (picked p n)
  picked_has e n l t = let a = picked_occurs e n in let b = bit_true (both t (lt-ltb e n l)) in omega arith

  -- they stand in order
  pub picked_rises : (a b n : ℕ) → a < b → b < n → p a ≡ true → p b ≡ true → place (picked p n) a < place (picked p n) b
  picked_rises a b zero k l s t = absurd (not-suc-le-zero l)
  picked_rises a b (suc n) k l s t =
      last_or_lower l
      (λ d.
      let none : occurrences b (picked p n) ≡ 0 = picked_occurs b n ∙ bit_false (and_fails (p b) (le-ltb b n (omega arith))) in
      let r = ap (λ (l : List ℕ). place l b) (picked_suc n) ∙ place_right b (picked p n) (one n) none in
      let x = left a (omega arith) s in
      let y = place_lt a (picked p n) (picked_has a n (omega arith) s) in
      omega arith)
      (λ m. let h = picked_rises a b n k m s t in let x = left a (omega arith) s in let y = left b m t in omega arith)
    where
      left : (e : ℕ) → e < n → p e ≡ true → place (picked p (suc n)) e ≡ place (picked p n) e
      left e m q = ap (λ (l : List ℕ). place l e) (picked_suc n) ∙ place_left e (picked p n) (one n) (picked_has e n m q)

  -- each is below n and passes
  picked_of : (e n : ℕ) → 0 < occurrences e (picked p n) → (e < n) × (p e ≡ true)
  picked_of e n h =
      let o = picked_occurs e n in
      let t = bit_pos (p e && ltb e n) (omega arith) in
      (ltb-true e n (second (p e) (ltb e n) t), first (p e) (ltb e n) t)

  pub picked_mem : (e n : ℕ) → Memᴰ e (picked p n) → (e < n) × (p e ≡ true)
  picked_mem e n m = picked_of e n (mem_occurs e (picked p n) m)

  pub picked_in : (e n : ℕ) → e < n → p e ≡ true → Memᴰ e (picked p n)
  unfolding picked
  picked_in e n l t = each_in e (λ a. cond (p a) (a ∷ []) []) n e l (where_in (e ∷ []) (p e) t (Memᴰ.head refl))

  pub picked_below : (n i : ℕ) → i < length (picked p n) → get_or (picked p n) i 0 < n
  picked_below n i h = (picked_of (get_or (picked p n) i 0) n (at_occurs (picked p n) i h)).0

  -- a count over them is a tally
  pub count_picked : (q : ℕ → Bool) (n : ℕ) → count q (picked p n) ≡ tally (λ e. p e && q e) n
  unfolding picked each sum count one
  count_picked q zero = refl
  count_picked q (suc n) =
      ap (count q) (picked_suc n) ∙ count_append q (picked p n) (one n)
      ∙ ap₂ (λ (a b : ℕ). a + b) (count_picked q n) (last (p n))
    where
      last : (b : Bool) → count q (cond b (n ∷ []) []) ≡ bit (b && q n)
      last true = add-zero (bit (q n))
      last false = refl

  pub picked_length : (n : ℕ) → length (picked p n) ≡ tally p n
  unfolding picked each sum one
  picked_length zero = refl
  picked_length (suc n) =
      ap length (picked_suc n) ∙ length-append (picked p n) (one n) ∙ ap₂ (λ (a b : ℕ). a + b) (picked_length n) (last (p n))
    where
      last : (b : Bool) → length (cond b (n ∷ []) []) ≡ bit b
      last true = refl
      last false = refl

  pub picked_few : (n : ℕ) → length (picked p n) ≤ n
  picked_few n = let a = picked_length n in let b = sum_bound (λ e. bit (p e)) 1 n (λ e l. bit_le (p e) true (λ _. refl)) in omega arith

  -- the number of rank k stands at place k
  pub nth_rank : (n s : ℕ) → s < n → p s ≡ true → nth (picked p n) (tally p s) ≡ Some s
  unfolding one
  nth_rank zero s l t = absurd (not-suc-le-zero l)
  nth_rank (suc n) s l t =
      last_or_lower l
      (λ d.
      let here : one n ≡ n ∷ [] = rw (ap p (sym d) ∙ t) in
      ap (λ (m : List ℕ). nth m (tally p s)) (picked_suc n ∙ ap (λ (m : List ℕ). picked p n ++ m) here)
      ∙ ap (nth (picked p n ++ n ∷ [])) (ap (tally p) d ∙ sym (picked_length n))
      ∙ nth_at (picked p n) n ∙ ap (λ (x : ℕ). Some x) (sym d))
      (λ k.
      let r = rank_rises p s n k t in
      let z = picked_length n in
      ap (λ (m : List ℕ). nth m (tally p s)) (picked_suc n) ∙ nth_left (picked p n) (one n) (tally p s) (omega arith) ∙ nth_rank n s k t)

  -- what stands at place k passes, and k that pass are below it
  pub nth_of : (n k x : ℕ) → nth (picked p n) k ≡ Some x → (x < n) × (p x ≡ true) × (tally p x ≡ k)
  nth_of n k x h =
      cases (ltb k (tally p n))
      (λ t.
      let (s, l, q, r) = ranked p n k (ltb-true k (tally p n) t) in
      let same : s ≡ x = at_inj (sym (nth_rank n s l q) ∙ ap (nth (picked p n)) r ∙ h) in
      (omega arith, subst (λ (y : ℕ). p y ≡ true) same q, subst (λ (y : ℕ). tally p y ≡ k) same r))
      (λ t. let z = picked_length n in at_nothing (sym h ∙ nth_past (picked p n) k (omega tests)))
    where
      at_inj : {a b : ℕ} → Some a ≡ Some b → a ≡ b
      at_inj e = cc

      at_nothing : {X : Type 0} → Some x ≡ None → X
      at_nothing e = let z : ◌≡◌ {A = ℕ} 0 1 = cc in absurd (omega arith)

  pub nth_found : (n k : ℕ) → k < tally p n → (x : ℕ) × (nth (picked p n) k ≡ Some x)
  nth_found n k h = let (s, l, q, r) = ranked p n k h in (s, sym (ap (nth (picked p n)) r) ∙ nth_rank n s l q)

  -- the same, read off the list
  pub rank_at : (n s : ℕ) → s < n → p s ≡ true → get_or (picked p n) (tally p s) 0 ≡ s
  rank_at n s l t = nth_at_place (picked p n) (tally p s) s (nth_rank n s l t)

  pub at_rank : (n k : ℕ) → k < length (picked p n) → let x = get_or (picked p n) k 0 in (x < n) × (p x ≡ true) × (tally p x ≡ k)
  at_rank n k h = nth_of n k (get_or (picked p n) k 0) (nth_inside (picked p n) k h)

-- ---- the first k of them: those of rank below k

pub first_picked : (p : ℕ → Bool) (k n : ℕ) → take k (picked p n) ≡ picked (λ e. p e && ltb (tally p e) k) n
unfolding picked each sum
first_picked p k zero = take-nil k
first_picked p k (suc n) =
    let few = picked_length p n in
    cases (ltb (tally p n) k)
    (λ t.
    let more = picked_length p (suc n) in
    let one = bit_le (p n) true (λ _. refl) in
    take_all k (picked p (suc n)) (omega tests)
    ∙ ap₂ (λ (l m : List ℕ). l ++ m) (sym (take_all k (picked p n) (omega tests)) ∙ first_picked p k n)
    (ap (λ (b : Bool). cond b (n ∷ []) []) (sym (and_true (p n)) ∙ ap (λ (b : Bool). p n && b) (sym t))))
    (λ t.
    let first = picked (λ e. p e && ltb (tally p e) k) n in
    take-append-le k (picked p n) (cond (p n) (n ∷ []) []) (omega tests) ∙ first_picked p k n ∙ sym (append-nil first)
    ∙ ap (λ (b : Bool). first ++ cond b (n ∷ []) []) (sym (and_fails (p n) t)))

-- ---- those that pass first, then the others

module _ (p : ℕ → Bool) (n : ℕ) where
  abbrev parted : List ℕ
  parted = picked p n ++ picked (λ e. not (p e)) n

  pub parted_once : (e : ℕ) → occurrences e parted ≡ bit (ltb e n)
  parted_once e =
      count_append (eqb e) (picked p n) (picked (λ e. not (p e)) n)
      ∙ ap₂ (λ (a b : ℕ). a + b) (picked_occurs p e n) (picked_occurs (λ e. not (p e)) e n) ∙ term (p e) (ltb e n)
    where
      term : (a b : Bool) → bit (a && b) + bit (not a && b) ≡ bit b
      term true b = add-zero (bit b)
      term false b = zero-add (bit b)

  left_place : (a : ℕ) → a < n → p a ≡ true → place parted a ≡ place (picked p n) a
  left_place a l t = place_left a (picked p n) (picked (λ e. not (p e)) n) (picked_has p a n l t)

  right_place : (a : ℕ) → p a ≡ false → place parted a ≡ length (picked p n) + place (picked (λ e. not (p e)) n) a
  right_place a t = place_right a (picked p n) (picked (λ e. not (p e)) n) (picked_occurs p a n ∙ ap (λ (b : Bool). bit (b && ltb a n)) t)

  pub parted_first : (a b : ℕ) → a < n → p a ≡ true → p b ≡ false → place parted a < place parted b
  parted_first a b l s t =
      let x = left_place a l s in
      let y = right_place b t in
      let z = place_lt a (picked p n) (picked_has p a n l s) in omega arith

  pub parted_rises : (a b : ℕ) → a < b → b < n → (p b ≡ true → p a ≡ true) → place parted a < place parted b
  parted_rises a b k l h =
      cases (p a)
      (λ s.
      cases (p b)
      (λ t.
      let x = left_place a (omega arith) s in
      let y = left_place b l t in
      let z = picked_rises p a b n k l s t in omega arith)
      (λ t. parted_first a b (omega arith) s t))
      (λ s.
      cases (p b) (λ t. clash (h t) s)
      (λ t.
      let x = right_place a s in
      let y = right_place b t in
      let z = picked_rises (λ e. not (p e)) a b n k l (to_not s) (to_not t) in omega arith))
