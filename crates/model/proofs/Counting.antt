-- Counts over lists: how they go with map, filter and append, and when one is larger than another.
-- Assumes nothing.
use Prim.Native.Nat.{ℕ, ◌+◌, ◌≤◌, ◌<◌, zero-le}
use mathlib.Core.Path.{◌≡◌, refl, sym, ap, ◌∙◌}
use mathlib.Core.Bool.{Bool, true, false, cond, ◌&&◌}
use mathlib.Core.List.Memᴰ
use mathlib.Core.List.{List, [], ◌∷◌, ◌++◌, map, Memᴰ}
use mathlib.Core.Logic.{◌⊎◌, inl, inr}
use native.Mathlib.Nat.{zero-add, not-suc-le-zero}
use native.Mathlib.Omega.{arith}
use lib.ListN.{length}
use Rattle.model.specs.Numbers.{bit, count, filter}
use Rattle.model.proofs.Tests.{cases, bits, bit_le}

pub count_append : {A : Type 0} (p : A → Bool) (l m : List A) → count p (l ++ m) ≡ count p l + count p m
unfolding count
count_append p [] m = sym (zero-add (count p m))
count_append p (x ∷ l) m = let h = count_append p l m in omega arith

pub count_map : {A B : Type 0} (p : B → Bool) (g : A → B) (l : List A) → count p (map g l) ≡ count (λ x. p (g x)) l
unfolding count
count_map p g [] = refl
count_map p g (x ∷ l) = ap (λ (n : ℕ). bit (p (g x)) + n) (count_map p g l)

pub count_filter : {A : Type 0} (q p : A → Bool) (l : List A) → count q (filter p l) ≡ count (λ x. p x && q x) l
unfolding count filter
count_filter q p [] = refl
count_filter q p (x ∷ l) = let h = count_filter q p l in cases (p x) (λ t. rw t (omega arith)) (λ t. rw t (h ∙ sym (zero-add _)))

pub count_le : {A : Type 0} (p q : A → Bool) (l : List A) → ((x : A) → p x ≡ true → q x ≡ true) → count p l ≤ count q l
unfolding count
count_le p q [] h = zero-le
count_le p q (x ∷ l) h = let r = count_le p q l h in let b = bit_le (p x) (q x) (h x) in omega arith

pub count_length : {A : Type 0} (p : A → Bool) (l : List A) → count p l ≤ length l
unfolding count
count_length p [] = zero-le
count_length p (x ∷ l) = let h = count_length p l in let b = bit_le (p x) true (λ _. refl) in omega arith

pub count_none : {A : Type 0} (p : A → Bool) (l : List A) → ((x : A) → p x ≡ false) → count p l ≡ 0
unfolding count
count_none p [] h = refl
count_none p (x ∷ l) h = let r = count_none p l h in let b = h x in omega bits

-- a count that is larger has an element of its own
pub count_more : {A : Type 0} (p q : A → Bool) (l : List A) → count q l < count p l → (c : A) × Memᴰ c l × (p c ≡ true) × (q c ≡ false)
unfolding count
count_more p q [] h = absurd (not-suc-le-zero h)
count_more {A} p q (x ∷ l) h =
    cases (p x) (λ a. cases (q x) (λ b. up (count_more p q l (omega bits))) (λ b. (x, Memᴰ.head refl, a, b)))
    (λ a. cases (q x) (λ b. up (count_more p q l (omega bits))) (λ b. up (count_more p q l (omega bits))))
  where
    up : (c : A) × Memᴰ c l × (p c ≡ true) × (q c ≡ false) → (c : A) × Memᴰ c (x ∷ l) × (p c ≡ true) × (q c ≡ false)
    up (c, m, a, b) = (c, Memᴰ.tail m, a, b)

pub filter_mem : {A : Type 0} (p : A → Bool) {c : A} (l : List A) → Memᴰ c (filter p l) → Memᴰ c l × (p c ≡ true)
unfolding filter
filter_mem p [] m = absurd (Memᴰ.not-nil m)
filter_mem {A} p {c} (x ∷ l) m = go (p x) refl m (λ k. filter_mem p l k)
  where
    go : (b : Bool) → p x ≡ b → Memᴰ c (cond b (x ∷ filter p l) (filter p l)) → (Memᴰ c (filter p l) → Memᴰ c l × (p c ≡ true))
        → Memᴰ c (x ∷ l) × (p c ≡ true)
    go false t m ih = let (a, b) = ih m in (Memᴰ.tail a, b)
    go true t m ih = which (Memᴰ.cases_cons m)
      where
        which : (c ≡ x) ⊎ Memᴰ c (filter p l) → Memᴰ c (x ∷ l) × (p c ≡ true)
        which (inl e) = (Memᴰ.head e, ap p e ∙ t)
        which (inr k) = let (a, b) = ih k in (Memᴰ.tail a, b)
