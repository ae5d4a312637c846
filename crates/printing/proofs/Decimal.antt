-- A number in decimal is its tenth part's digits and its last digit.
-- Assumes nothing.
use Prim.Native.Nat.{ℕ, zero, suc, ◌/◌, ◌%◌, ◌^◌, ◌≤◌, ◌<◌}
use mathlib.Core.Path.{◌≡◌, refl, sym, ap, ◌∙◌}
use mathlib.Core.Bool.{cond}
use mathlib.Core.List.{List, [], ◌∷◌, ◌++◌}
use native.Mathlib.Nat.{pow-suc, div-lt_iff_lt-mul}
use native.Mathlib.Omega.{arith}
use lib.Dec.{ltb}
use Rattle.model.proofs.Tests.{lt-ltb, le-ltb}
use Rattle.model.specs.Text.{digit, decimal_in, decimal}

step : (k n : ℕ) → decimal_in (suc k) n ≡ cond (ltb n 10) (digit n ∷ []) (decimal_in k (n / 10) ++ (digit (n % 10) ∷ []))
unfolding decimal_in
step k n = refl

small : (k n : ℕ) → n < 10 → decimal_in (suc k) n ≡ digit n ∷ []
small k n h = step k n ∙ simp (lt-ltb n 10 h)

large : (k n : ℕ) → 10 ≤ n → decimal_in (suc k) n ≡ decimal_in k (n / 10) ++ (digit (n % 10) ∷ [])
large k n h = step k n ∙ simp (le-ltb n 10 h)

-- a place more changes nothing where there are enough
enough : (k n : ℕ) → n < 10 ^ suc k → decimal_in (suc (suc k)) n ≡ decimal_in (suc k) n
enough zero n h = small 1 n h ∙ sym (small 0 n h)
enough (suc k) n h =
    let fewer : n / 10 < 10 ^ suc k = (div-lt_iff_lt-mul {k = 10} {x = n} {y = 10 ^ suc k} (omega arith)).1 (rw pow-suc at h) in
    step (suc (suc k)) n ∙ ap (λ (l : List ℕ). cond (ltb n 10) (digit n ∷ []) (l ++ (digit (n % 10) ∷ []))) (enough k (n / 10) fewer) ∙ sym (step (suc k) n)

pub decimal_digit : (n : ℕ) → n < 10 → decimal n ≡ digit (n % 10) ∷ []
decimal_digit n h =
    let e : n % 10 ≡ n = omega arith in small 19 n h ∙ rw e

pub decimal_more : (n : ℕ) → 10 ≤ n → n < 2 ^ 64 → decimal n ≡ decimal (n / 10) ++ (digit (n % 10) ∷ [])
decimal_more n h m =
    let few : n / 10 < 10 ^ 19 = omega arith in large 19 n h ∙ ap (λ (l : List ℕ). l ++ (digit (n % 10) ∷ [])) (sym (enough 18 (n / 10) few))
