-- What it says that a check passed, and how checks made one after another go on.
-- Assumes nothing.
use mathlib.Core.Path.{◌≡◌, refl, sym, ap, ◌∙◌}
use Rattle.std.specs.Prelude.{Result, Ok, Err, IsErr, IsErrAnd}
use mathlib.Core.Bool.{Bool, true, false}
use Prim.Native.Nat.{ℕ, zero, suc, ◌+◌, ◌-◌, ◌<◌}
use native.Mathlib.Nat.{add-zero, add-suc}
use native.Mathlib.Numerals.{add-one}
use native.Mathlib.Omega.{arith}
use Rattle.model.specs.declared.Refusal.{Refusal}
use Rattle.model.specs.Refusals.{Check, unless, and_then}

-- what a `?` hands on is the refusal that it met
pub handed_on : {A : Type 0} (r : Result A Refusal) (e : Refusal) → IsErr r × IsErrAnd r (λ x. x ≡ e) → r ≡ Err e
handed_on (Ok x) e h = absurd h.1
handed_on (Err x) e h = ap (λ (y : Refusal). Err y) h.1

pub failed_passed : {X : Type 0} (r : Refusal) → ◌≡◌ {A = Check} (Err r) (Ok tt) → X
failed_passed r h = let z : ◌≡◌ {A = ℕ} 0 1 = cc in absurd (omega arith)

pub unless_passed : (b : Bool) (r : Refusal) (rest : Unit {0} → Check) → unless b r rest ≡ Ok tt → (b ≡ true) × (rest tt ≡ Ok tt)
unless_passed true r rest h = (refl, h)
unless_passed false r rest h = failed_passed r h

pub then_passed : (c : Check) (rest : Unit {0} → Check) → and_then c rest ≡ Ok tt → (c ≡ Ok tt) × (rest tt ≡ Ok tt)
then_passed (Ok tt) rest h = (refl, h)
then_passed (Err r) rest h = failed_passed r h

-- five tests, and then a check, are made in one row
pub five_then : (a : Bool) (q : Refusal) (b : Bool) (r : Refusal) (c : Bool) (s : Refusal) (d : Bool) (t : Refusal) (e : Bool) (u : Refusal)
    (rest : Unit {0} → Check)
    → and_then (unless a q λ _. unless b r λ _. unless c s λ _. unless d t λ _. unless e u λ _. Ok tt) rest
    ≡ unless a q λ _. unless b r λ _. unless c s λ _. unless d t λ _. unless e u rest
five_then false q b r c s d t e u rest = refl
five_then true q false r c s d t e u rest = refl
five_then true q true r false s d t e u rest = refl
five_then true q true r true s false t e u rest = refl
five_then true q true r true s true t false u rest = refl
five_then true q true r true s true t true u rest = refl

-- ---- checks made one after another: f says what the first n give, and `step` what each gives

module _ (f step : ℕ → Check) (up : (n : ℕ) → f (suc n) ≡ and_then (f n) λ _. step n) where
  -- a refusal stays the first
  stays : (m d : ℕ) (x : Refusal) → Err x ≡ f m → Err x ≡ f (m + d)
  stays m zero x p = rw add-zero p
  stays m (suc d) x p = rw (add-suc m d, up (m + d), ← stays m d x p)

  -- the check r, where those before it pass
  module _ (i : ℕ) (r : Check) (p : (Ok tt) ≡ f i) (q : r ≡ step i) where
    here : r ≡ f (suc i)
    here = rw (up i, ← p) q

    pub none_yet : r ≡ Ok tt → Ok tt ≡ f (i + 1)
    none_yet e = rw (add-one i) (sym e ∙ here)

    pub the_first : (x : Refusal) → r ≡ Err x → (n : ℕ) → i < n → Err x ≡ f n
    the_first x e n l = let k : n ≡ suc i + (n - suc i) = omega arith in rw k (stays (suc i) (n - suc i) x (sym e ∙ here))
