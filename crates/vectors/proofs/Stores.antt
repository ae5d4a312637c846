-- Numbers stored one after another in a list, and numbers counted one after another.
-- Assumes nothing.
use Prim.Native.Nat.{ℕ, suc, ◌+◌, ◌≤◌, ◌<◌}
use mathlib.Core.Path.{◌≡◌, refl}
use mathlib.Core.Bool.{Bool, true, false, cond}
use native.Mathlib.Nat.{zero-add}
use mathlib.Core.List.{List, [], ◌∷◌}
use native.Mathlib.Numerals.{add-one}
use native.Mathlib.Omega.{arith}
use lib.ListN.{length, get_or, set, drop, drop_of_length-le}
use lib.Seq.{sets, drop-cons}
use Rattle.std.specs.List.{count_by}
use Rattle.std.proofs.lemmas.List.Recursion.{is_count_by}
use Rattle.model.specs.Numbers.{bit, count}
use Rattle.model.proofs.Tests.{bit_true}

-- one store more of those that are left
pub sets_next : (v us : List ℕ) (i t y : ℕ) → t < length us → y ≡ get_or us t 0 → sets (set v i y) (i + 1) (drop (t + 1) us) ≡ sets v i (drop t us)
sets_next v us i t y h e = rw (drop-cons us t 0 h, add-one t, add-one i, e)

-- none is left
pub sets_all : (v us : List ℕ) (i t : ℕ) → length us ≤ t → sets v i (drop t us) ≡ v
sets_all v us i t h = rw (drop_of_length-le us h)

-- where every number passes, all are counted
pub count_all : (p : ℕ → Bool) (l : List ℕ) → ((i : ℕ) → p (get_or l i 0) ≡ true) → count p l ≡ length l
unfolding count
count_all p [] h = refl
count_all p (x ∷ l) h = omega (arith, bit_true (h 0), count_all p l (λ i. h (suc i)))

-- the library counts the same
pub count_is : (p : ℕ → Bool) (l : List ℕ) → count p l ≡ count_by p l
unfolding count
count_is p l = is_count_by (count p) p refl step l
  where
    step : (x : ℕ) (xs : List ℕ) → bit (p x) + count p xs ≡ cond (p x) (1 + count p xs) (count p xs)
    step x xs = elim (p x) as (λ b. bit b + count p xs ≡ cond b (1 + count p xs) (count p xs)) [ true ↦ refl | false ↦ zero-add (count p xs) ]
