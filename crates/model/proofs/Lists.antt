-- Lists given by a function, and a number in the vectors after one of them is set.
-- Assumes nothing.
use Prim.Native.Nat.{ℕ, zero, suc, ◌+◌, ◌≤◌, ◌<◌}
use lib.Dec.{ltb}
use mathlib.Core.Path.{◌≡◌, refl, sym, ap, subst, ◌∙◌}
use mathlib.Core.List.{List, []}
use native.Mathlib.Nat.{le_of_suc-le-suc, not-suc-le-zero, add-zero, add-suc, suc-add, zero-add}
use native.Mathlib.Omega.{arith}
use lib.ListN.{length, get_or, set, get_or-eq_default}
use lib.Seq.{get_or-set_same, get_or-set_other}
use Rattle.model.specs.Numbers.{list_from, list_of}
use Rattle.model.specs.Vectors.{Vectors, number}
use Rattle.model.proofs.Tests.{cases, ltb-true, ltb-false}

module _ {A : Type 0} (f : ℕ → A) (d : A) where
  from_length : (i n : ℕ) → length (list_from f i n) ≡ n
  unfolding list_from
  from_length i zero = refl
  from_length i (suc n) = ap suc (from_length (suc i) n)

  from_at : (i n j : ℕ) → j < n → get_or (list_from f i n) j d ≡ f (i + j)
  unfolding list_from
  from_at i zero j h = absurd (not-suc-le-zero h)
  from_at i (suc n) zero h = ap f (sym (add-zero i))
  from_at i (suc n) (suc j) h = from_at (suc i) n j (le_of_suc-le-suc h) ∙ ap f (suc-add i j ∙ sym (add-suc i j))

  pub list_of-length : (n : ℕ) → length (list_of f n) ≡ n
  list_of-length n = from_length 0 n

  pub list_of_at : (n j : ℕ) → j < n → get_or (list_of f n) j d ≡ f j
  list_of_at n j h = from_at 0 n j h ∙ ap f (zero-add j)

  pub list_of_past : (n j : ℕ) → n ≤ j → get_or (list_of f n) j d ≡ d
  list_of_past n j h = get_or-eq_default (list_of f n) d (let e = list_of-length n in omega arith)

pub number_set_same : (X : Vectors) (e t : ℕ) (r : List ℕ) → e < length X → number (set X e r) e t ≡ get_or r t 0
number_set_same X e t r h = ap (λ (l : List ℕ). get_or l t 0) (get_or-set_same X e r [] h)

pub number_set_other : (X : Vectors) (e a t : ℕ) (r : List ℕ) → ¬ (a ≡ e) → number (set X e r) a t ≡ number X a t
number_set_other X e a t r h = ap (λ (l : List ℕ). get_or l t 0) (get_or-set_other X e a r [] h)

-- a property of 0 and of each number of a row is one of what is read in it
pub row_with : (P : ℕ → Type 0) (f : ℕ → ℕ) (T t : ℕ) → P 0 → (t < T → P (f t)) → P (get_or (list_of f T) t 0)
row_with P f T t z h =
    cases (ltb t T) (λ a. let l = ltb-true t T a in subst P (sym (list_of_at f 0 T t l)) (h l))
    (λ a. subst P (sym (list_of_past f 0 T t (ltb-false t T a))) z)
