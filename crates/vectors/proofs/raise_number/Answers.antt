-- raise_number meets its contract: where y is the larger it rose, else what is stored was there.
-- Assumes nothing.
use Rattle.std.proofs.Common.{◌≡◌, ℕ, List, max, ◌<◌, arith, length, get_or, set}
use native.Mathlib.Nat.{max-eq_left, max-eq_right}
use lib.Dec.{ltb}
use lib.Seq.{set-get_or}
use Rattle.model.proofs.Tests.{cases, ltb-true, ltb-false}
use Rattle.vectors.specs.Rows.{Rose}
use Rattle.vectors.proofs.Rising.{rose_none, rose_one}
use Rattle.vectors.proofs.raise_number.Goals as goal

rose : (l : List ℕ) (i y : ℕ) → i < length l → Rose l (set l i (max (get_or l i 0) y)) (ltb (get_or l i 0) y)
rose l i y h =
    let x = get_or l i 0 in
    cases (ltb x y)
    (λ t. let m : max x y ≡ y = max-eq_right (omega (arith, ltb-true x y t)) in rw (t, m) (rose_one l i y h (ltb-true x y t)))
    (λ t. let m : max x y ≡ x = max-eq_left (ltb-false x y t) in rw (t, m, set-get_or l i 0) (rose_none l))

pub returns-clause-rose : goal.returns-clause-rose
returns-clause-rose c =
    let a = c.args in
    rw c.max.ensures (rose a.v.now a.at a.y c.requires)
