-- Lists made one part after another: what a loop needs of the parts that it has passed, their members, and their length; and a
-- list's own elements as the parts.
-- Assumes nothing.
use Prim.Native.Nat.{ℕ, zero, suc, ◌+◌, ◌*◌, ◌≤◌, ◌<◌, zero-le}
use mathlib.Core.Path.{◌≡◌, refl, sym, ap, ap₂, subst, ◌∙◌}
use mathlib.Core.Logic.{◌⊎◌, inl, inr}
use mathlib.Core.Bool.{Bool, true, false, cond}
use mathlib.Core.List.Memᴰ
use mathlib.Core.List.{List, [], ◌∷◌, ◌++◌, append-nil, append_assoc, Memᴰ}
use native.Mathlib.Nat.{le_refl, not-suc-le-zero, suc-mul}
use native.Mathlib.Numerals.{add-one}
use native.Mathlib.Decide.{dec_le}
use native.Mathlib.Omega.{arith}
use lib.Dec.{leb, leb-suc-suc}
use lib.ListN.{length, get_or, drop, length-append}
use Rattle.model.specs.Numbers.{sum, each, flat_map, flat_map_tails}
use Rattle.model.proofs.Tests.{clash, last_or_lower, le-leb, lt-leb}

module _ {A : Type 0} (f : ℕ → List A) where
  -- one part more
  pub each_more : (i : ℕ) → each f (i + 1) ≡ each f i ++ f i
  unfolding each
  each_more i = rw (add-one i)

  pub each_none : (n : ℕ) → ((i : ℕ) → i < n → f i ≡ []) → each f n ≡ []
  unfolding each
  each_none zero h = refl
  each_none (suc n) h = rw (h n (omega arith), each_none n (λ i l. h i (omega arith)))

  -- empty parts are passed over
  pub each_skip : (m n : ℕ) → m ≤ n → ((i : ℕ) → m ≤ i → i < n → f i ≡ []) → each f n ≡ each f m
  unfolding each
  each_skip m zero h e = let z : m ≡ 0 = omega arith in rw z
  each_skip m (suc n) h e = elim (dec_le m n) [
    | yes p ↦ rw (e n p (omega arith), append-nil (each f n)) (each_skip m n p (λ i a b. e i a (omega arith)))
    | no p ↦ (let z : m ≡ suc n = omega arith in rw z)
  ]

  pub each_count : (i : ℕ) → length (each f (i + 1)) ≡ length (each f i) + length (f i)
  each_count i = ap length (each_more i) ∙ length-append (each f i) (f i)

  pub each_longer : (m n : ℕ) → m ≤ n → length (each f m) ≤ length (each f n)
  unfolding each
  each_longer m zero h =
      let e : m ≡ 0 = omega arith in
      rw e (omega arith)
  each_longer m (suc n) h = elim (dec_le m n) [
    | yes p ↦ omega (arith, each_longer m n p, length-append (each f n) (f n))
    | no p ↦ (let e : m ≡ suc n = omega arith in rw e (omega arith))
  ]

  pub each_most : (m : ℕ) → ((i : ℕ) → length (f i) ≤ m) → (n : ℕ) → length (each f n) ≤ n * m
  unfolding each
  each_most m h zero = omega arith
  each_most m h (suc n) = omega (arith, each_most m h n, h n, length-append (each f n) (f n), suc-mul n m)

pub each_length : {A : Type 0} (f : ℕ → List A) (n : ℕ) → length (each f n) ≡ sum (λ i. length (f i)) n
unfolding each sum
each_length f zero = refl
each_length f (suc n) = length-append (each f n) (f n) ∙ ap (λ (k : ℕ). k + length (f n)) (each_length f n)

-- ---- members

module _ {A : Type 0} (x : A) (f : ℕ → List A) where
  pub each_of : (n : ℕ) → Memᴰ x (each f n) → (i : ℕ) × (i < n) × Memᴰ x (f i)
  unfolding each
  each_of zero h = absurd (Memᴰ.not-nil h)
  each_of (suc n) h = go (Memᴰ.append_cases (each f n) h) (λ k. each_of n k)
    where
      go : Memᴰ x (each f n) ⊎ Memᴰ x (f n) → (Memᴰ x (each f n) → (i : ℕ) × (i < n) × Memᴰ x (f i))
          → (i : ℕ) × (i < suc n) × Memᴰ x (f i)
      go (inl k) ih = let (i, l, m) = ih k in (i, omega arith, m)
      go (inr k) ih = (n, le_refl (suc n), k)

  pub each_in : (n i : ℕ) → i < n → Memᴰ x (f i) → Memᴰ x (each f n)
  unfolding each
  each_in zero i l m = absurd (not-suc-le-zero l)
  each_in (suc n) i l m =
      last_or_lower l (λ d. Memᴰ.append_right (each f n) (subst (λ (j : ℕ). Memᴰ x (f j)) d m)) (λ k. Memᴰ.append_left (f n) (each_in n i k m))

module _ {A B : Type 0} (y : B) (f : A → List B) where
  pub flat_of : (l : List A) → Memᴰ y (flat_map f l) → (x : A) × Memᴰ x l × Memᴰ y (f x)
  unfolding flat_map
  flat_of [] h = absurd (Memᴰ.not-nil h)
  flat_of (x ∷ l) h = go (Memᴰ.append_cases (f x) h) (λ k. flat_of l k)
    where
      go : Memᴰ y (f x) ⊎ Memᴰ y (flat_map f l) → (Memᴰ y (flat_map f l) → (z : A) × Memᴰ z l × Memᴰ y (f z))
          → (z : A) × Memᴰ z (x ∷ l) × Memᴰ y (f z)
      go (inl k) ih = (x, Memᴰ.head refl, k)
      go (inr k) ih = let (z, m, n) = ih k in (z, Memᴰ.tail m, n)

  pub flat_in : (l : List A) (x : A) → Memᴰ x l → Memᴰ y (f x) → Memᴰ y (flat_map f l)
  unfolding flat_map
  flat_in [] x h k = elim h [ ]
  flat_in (z ∷ l) x (Memᴰ.head q) k = Memᴰ.append_left (flat_map f l) (subst (λ (w : A). Memᴰ y (f w)) q k)
  flat_in (z ∷ l) x (Memᴰ.tail m) k = Memᴰ.append_right (f z) (flat_in l x m k)

-- a list that is there only where a test passes
pub where_of : {A : Type 0} {x : A} (l : List A) (t : Bool) → Memᴰ x (cond t l []) → (t ≡ true) × Memᴰ x l
where_of l true h = (refl, h)
where_of l false h = absurd (Memᴰ.not-nil h)

pub where_in : {A : Type 0} {x : A} (l : List A) (t : Bool) → t ≡ true → Memᴰ x l → Memᴰ x (cond t l [])
where_in l true q h = h
where_in l false q h = clash q refl

-- ---- a list's elements as parts, by place

module _ {A : Type 0} where
  each_ext : (f g : ℕ → List A) → ((i : ℕ) → f i ≡ g i) → (n : ℕ) → each f n ≡ each g n
  unfolding each
  each_ext f g h zero = refl
  each_ext f g h (suc n) = ap₂ (λ (x y : List A). x ++ y) (each_ext f g h n) (h n)

  each_front : (f : ℕ → List A) (n : ℕ) → each f (suc n) ≡ f 0 ++ each (λ i. f (suc i)) n
  unfolding each
  each_front f zero = sym (append-nil (f 0))
  each_front f (suc n) = ap (λ (x : List A). x ++ f (suc n)) (each_front f n) ∙ append_assoc (f 0) (each (λ i. f (suc i)) n) (f (suc n))

  -- the elements from place m on
  pub flat_each : (f : ℕ → List A) (m : ℕ) (l : List ℕ) → flat_map f (drop m l) ≡ each (λ i. cond (leb m i) (f (get_or l i 0)) []) (length l)
  unfolding flat_map each
  flat_each f zero [] = refl
  flat_each f (suc m) [] = refl
  flat_each f zero (x ∷ l) =
      ap (λ (r : List A). f x ++ r) (flat_each f zero l)
      ∙ ap₂ (λ (r s : List A). r ++ s) (sym (at_once 0 (f x))) (each_ext _ _ (λ i. at_once i _ ∙ sym (at_once (suc i) _)) (length l))
      ∙ sym (each_front (λ i. cond (leb zero i) (f (get_or (x ∷ l) i 0)) []) (length l))
    where
      at_once : (i : ℕ) (r : List A) → cond (leb zero i) r [] ≡ r
      at_once i r = rw (le-leb zero i zero-le)
  flat_each f (suc m) (x ∷ l) =
      flat_each f m l
      ∙ each_ext _ _ (λ i. ap (λ (b : Bool). cond b (f (get_or l i 0)) []) (sym (leb-suc-suc m i))) (length l)
      ∙ ap (λ (r : List A). r ++ each (λ i. cond (leb (suc m) (suc i)) (f (get_or l i 0)) []) (length l)) (sym never)
      ∙ sym (each_front (λ i. cond (leb (suc m) i) (f (get_or (x ∷ l) i 0)) []) (length l))
    where
      never : cond (leb (suc m) 0) (f x) [] ≡ []
      never = rw (lt-leb (suc m) 0 (omega arith))

  -- each element and those behind it
  pub tails_each : (g : ℕ → List ℕ → List A) (l : List ℕ) → flat_map_tails g l ≡ each (λ i. g (get_or l i 0) (drop (suc i) l)) (length l)
  unfolding flat_map_tails each
  tails_each g [] = refl
  tails_each g (x ∷ l) =
      ap (λ (r : List A). g x l ++ r) (tails_each g l) ∙ sym (each_front (λ i. g (get_or (x ∷ l) i 0) (drop (suc i) (x ∷ l))) (length l))
