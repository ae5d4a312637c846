-- Steps that only raise numbers, one after another: the flag of all is the or of their flags.
-- Assumes nothing.
use Prim.Native.Nat.{ℕ, zero, suc, ◌≤◌, ◌<◌}
use mathlib.Core.Path.{◌≡◌, refl, sym, ap, ap₂, ◌∙◌}
use mathlib.Core.Bool.{Bool, true, false, not, ◌&&◌, ◌||◌}
use mathlib.Core.List.{List, [], ◌∷◌}
use native.Mathlib.Nat.{le_refl, le_trans}
use native.Mathlib.Omega.{arith}
use lib.Dec.{eqb}
use lib.ListN.{length, get_or, set, length-set}
use lib.Seq.{get_or-set_same}
use Rattle.model.specs.Passes.{same_row}
use Rattle.model.proofs.Tests.{cases, and_fails, eqb-true, eqb-false, eq-eqb, ne_eqb}
use Rattle.vectors.specs.Rows.{Rose}

pub same_row-refl : (l : List ℕ) → same_row l l ≡ true
same_row-refl [] = refl
same_row-refl (x ∷ l) = rw (eq-eqb x x refl) (same_row-refl l)

-- two lists that differ at a place are not the same
same_row_differ : (l k : List ℕ) (i : ℕ) → (get_or l i 0 ≡ get_or k i 0 → ⊥) → same_row l k ≡ false
same_row_differ [] [] i h = absurd (h refl)
same_row_differ [] (y ∷ k) i h = refl
same_row_differ (x ∷ l) [] i h = refl
same_row_differ (x ∷ l) (y ∷ k) zero h = rw (ne_eqb x y h)
same_row_differ (x ∷ l) (y ∷ k) (suc i) h = and_fails (eqb x y) (same_row_differ l k i h)

eqb_and : (x y z : ℕ) → x ≤ y → y ≤ z → eqb x z ≡ (eqb x y && eqb y z)
eqb_and x y z p q =
    cases (eqb x y) (λ t. let e = eqb-true x y t in rw (t, e))
    (λ t. let d = eqb-false x y t in rw (t, ne_eqb x z (λ e. d (omega arith))))

swap : (a b c d : Bool) → (a && b) && (c && d) ≡ (a && c) && (b && d)
swap true true c d = refl
swap true false true d = refl
swap true false false d = refl
swap false b c d = refl

-- where numbers only rise, the first is the last exactly where no step changed anything
same_and : (o c d : List ℕ) → length o ≡ length c → length c ≡ length d → ((i : ℕ) → get_or o i 0 ≤ get_or c i 0) → ((i : ℕ) → get_or c i 0 ≤ get_or d i 0)
    → same_row o d ≡ (same_row o c && same_row c d)
same_and [] [] [] h k p q = refl
same_and [] [] (z ∷ d) h k p q = refl
same_and [] (y ∷ c) d h k p q = absurd (omega arith)
same_and (x ∷ o) [] d h k p q = absurd (omega arith)
same_and (x ∷ o) (y ∷ c) [] h k p q = absurd (omega arith)
same_and (x ∷ o) (y ∷ c) (z ∷ d) h k p q =
    ap₂ ◌&&◌ (eqb_and x y z (p 0) (q 0)) (same_and o c d (omega arith) (omega arith) (λ i. p (suc i)) (λ i. q (suc i)))
    ∙ swap (eqb x y) (eqb y z) (same_row o c) (same_row c d)

-- nothing changes
pub rose_none : (l : List ℕ) → Rose l l false
rose_none l = record { kept = refl; up = λ i. le_refl (get_or l i 0); flag = ap not (sym (same_row-refl l)) }

set_up : (l : List ℕ) (i x : ℕ) → get_or l i 0 ≤ x → (j : ℕ) → get_or l j 0 ≤ get_or (set l i x) j 0
set_up [] i x h j = le_refl 0
set_up (y ∷ l) zero x h zero = h
set_up (y ∷ l) zero x h (suc j) = le_refl (get_or l j 0)
set_up (y ∷ l) (suc i) x h zero = le_refl y
set_up (y ∷ l) (suc i) x h (suc j) = set_up l i x h j

-- one number rises
pub rose_one : (l : List ℕ) (i x : ℕ) → i < length l → get_or l i 0 < x → Rose l (set l i x) true
rose_one l i x k h =
    let g = get_or-set_same l i x 0 k in
    record {
      kept = sym (length-set l i x);
      up = set_up l i x (omega arith);
      flag = ap not (sym (same_row_differ l (set l i x) i (λ e. omega arith)));
    }

-- one step, and then another
pub rose_then : {o c d : List ℕ} {x y : Bool} → Rose o c x → Rose c d y → Rose o d (x || y)
rose_then {o} {c} {d} {x} {y} p q =
    record {
      kept = p.kept ∙ q.kept;
      up = λ i. le_trans (p.up i) (q.up i);
      flag = ap₂ ◌||◌ p.flag q.flag ∙ or_not (same_row o c) (same_row c d) ∙ ap not (sym (same_and o c d p.kept q.kept p.up q.up));
    }
  where
    or_not : (a b : Bool) → not a || not b ≡ not (a && b)
    or_not true true = refl
    or_not true false = refl
    or_not false true = refl
    or_not false false = refl
