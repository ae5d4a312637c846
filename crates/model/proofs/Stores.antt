-- Numbers stored one after another in a list.
-- Assumes nothing.
use Prim.Native.Nat.{ℕ, suc, ◌+◌, ◌≤◌}
use mathlib.Core.Path.{◌≡◌, ◌∙◌}
use mathlib.Core.List.{List, [], ◌∷◌, ◌++◌}
use native.Mathlib.Nat.{zero-add, add-zero}
use native.Mathlib.Omega.{arith}
use lib.ListN.{length, set, drop}
use lib.Seq.{sets, sets-eq}

pub sets-append : (us ws v : List ℕ) (i : ℕ) → sets v i (us ++ ws) ≡ sets (sets v i us) (i + length us) ws
sets-append [] ws v i = rw (add-zero i)
sets-append (u ∷ us) ws v i =
    let k : i + suc (length us) ≡ suc i + length us = omega arith in
    rw k (sets-append us ws (set v i u) (suc i))

-- stores from the front
pub sets_front : (v us : List ℕ) (n : ℕ) → length us ≡ n → n ≤ length v → sets v 0 us ≡ us ++ drop n v
sets_front v us n e h = sets-eq us v 0 (omega arith) ∙ rw (e, zero-add n)
