-- Tests: what `&&`, `not` and `implies` tell, and cases. A test passes where it is `≡ true`, and fails where it is `≡ false`.
-- `omega tests` reads and proves the tests on numbers; `omega bits` reads a test as its bit.
-- Assumes nothing.
use Prim.Native.Nat.{ℕ, suc, ◌≤◌, ◌<◌, zero-le}
use mathlib.Core.Path.{◌≡◌, refl, sym, ap, ◌∙◌}
use mathlib.Core.Logic.{◌⊎◌, inl, inr}
use mathlib.Core.Bool.{Bool, true, false, not, ◌&&◌, ◌||◌, true≢false, false≢true}
use native.Mathlib.Nat.{le_refl}
use native.Mathlib.Omega.{arith}
use lib.Dec.{ltb, eqb}
pub use borrow.Author.Tests.{leb-true, leb-false, ltb-true, ltb-false, eqb-true, eqb-false, lt-ltb, le-ltb, le-leb, lt-leb, eq-eqb, ne_eqb, not-true as of-not}
use Rattle.model.specs.Numbers.{bit}
use Rattle.model.specs.Recording.{implies}

-- ---- cases

pub cases : {X : Type 0} (b : Bool) → (b ≡ true → X) → (b ≡ false → X) → X
cases true f g = f refl
cases false f g = g refl

pub clash : {X : Type 0} {b : Bool} → b ≡ true → b ≡ false → X
clash p q = absurd (true≢false (sym p ∙ q))

-- a test fails where its passing is absurd
pub fails : (b : Bool) → (b ≡ true → ⊥) → b ≡ false
fails true h = absurd (h refl)
fails false h = refl

-- ---- joined tests

pub to_not : {b : Bool} → b ≡ false → not b ≡ true
to_not p = ap not p

pub both : {a b : Bool} → a ≡ true → b ≡ true → (a && b) ≡ true
both {a} {b} p q = rw (p, q)

pub first : (a b : Bool) → (a && b) ≡ true → a ≡ true
first true b p = refl
first false b p = p

pub second : (a b : Bool) → (a && b) ≡ true → b ≡ true
second true b p = p
second false b p = absurd (false≢true p)

pub all_three : (a b c : Bool) → (a && b && c) ≡ true → (a ≡ true) × (b ≡ true) × (c ≡ true)
all_three a b c p = let q = first (a && b) c p in (first a b q, second a b q, second (a && b) c p)

pub either : (a b : Bool) → (a || b) ≡ true → (a ≡ true) ⊎ (b ≡ true)
either true b p = inl refl
either false b p = inr p

pub and_true : (a : Bool) → (a && true) ≡ a
and_true true = refl
and_true false = refl

pub and_fails : (a : Bool) {b : Bool} → b ≡ false → (a && b) ≡ false
and_fails true q = q
and_fails false q = refl

-- of two tests that do not both pass, where the first does
pub and_false : (a b : Bool) → (a && b) ≡ false → a ≡ true → b ≡ false
and_false a b p q = fails b (λ r. clash (both q r) p)

-- two joined tests are alike where the first passes and the second are
pub and_alike : (a : Bool) {b c : Bool} → (a ≡ true → b ≡ c) → (a && b) ≡ (a && c)
and_alike true h = h refl
and_alike false h = refl

-- the conclusion of an implication whose premise passes
pub implied : {a b : Bool} → implies a b ≡ true → a ≡ true → b ≡ true
implied {a} {b} p q = rw q at p

pub implies_by : (a b : Bool) → (a ≡ true → b ≡ true) → implies a b ≡ true
implies_by true b h = h refl
implies_by false b h = refl

pub eqb_turned : (m n : ℕ) → eqb m n ≡ eqb n m
eqb_turned m n =
    cases (eqb m n) (λ t. t ∙ sym (eq-eqb n m (sym (eqb-true m n t)))) (λ t. t ∙ sym (ne_eqb n m (λ q. eqb-false m n t (sym q))))

-- ---- bits

pub bit_true : {b : Bool} → b ≡ true → bit b ≡ 1
bit_true p = ap bit p

pub bit_false : {b : Bool} → b ≡ false → bit b ≡ 0
bit_false p = ap bit p

pub bit_le : (a b : Bool) → (a ≡ true → b ≡ true) → bit a ≤ bit b
bit_le false b h = zero-le
bit_le true b h = rw (h refl) (le_refl 1)

pub bit_pos : (b : Bool) → 0 < bit b → b ≡ true
bit_pos true h = refl
bit_pos false h = absurd (omega arith)

pub ruleset tests = (arith, leb-true, leb-false, ltb-true, ltb-false, eqb-true, eqb-false, lt-ltb, le-ltb, le-leb, lt-leb, eq-eqb, ne_eqb)

pub ruleset bits = (arith, bit_true, bit_false)

-- ---- cases on numbers

pub compared : {X : Type 0} (a b : ℕ) → (a < b → X) → (a ≡ b → X) → (b < a → X) → X
compared a b f g h = cases (ltb a b) (λ t. f (omega tests)) (λ t. cases (eqb a b) (λ s. g (omega tests)) (λ s. h (omega tests)))

-- a number below suc n is n or below it
pub last_or_lower : {X : Type 0} {m n : ℕ} → m < suc n → (m ≡ n → X) → (m < n → X) → X
last_or_lower {X} {m} {n} h f g = cases (eqb m n) (λ t. f (omega tests)) (λ t. g (omega tests))
