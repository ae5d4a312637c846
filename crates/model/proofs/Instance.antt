-- The promise speaks of something.
-- Assumes nothing.
use Prim.Native.Nat.{ℕ}
use mathlib.Core.Path.{◌≡◌, refl, ap, subst}
use mathlib.Core.Logic.{◌⊎◌, inl, inr}
use mathlib.Core.List.Memᴰ
use mathlib.Core.List.{[], ◌∷◌, Memᴰ}
use native.Mathlib.Omega.{arith}
use Rattle.model.specs.File.{recording_of}
use Rattle.model.specs.Pairs.{Entry, listed, OnList}
use Rattle.model.specs.Rows.Starred.{G}
use Rattle.model.specs.Rows.Instance.{Instance}
use Rattle.model.proofs.Computing.{rows}

sure : Entry
sure = record { first = 3; second = 2; mark = 1 }

one_entry : listed (recording_of G) 37 ≡ sure ∷ []
unfolding rows sure
one_entry = refl

pub instance : Instance
unfolding rows sure
instance =
    record {
      accepted = refl;
      listed_sure = rw one_entry (Memᴰ.head refl);
      conflicting = refl;
      off_list = λ m k. other m (either m k);
    }
  where
    -- the one entry is neither of event 0
    either : (m : ℕ) → OnList (recording_of G) 0 2 37 m → (record { first = 0; second = 2; mark = m } ≡ sure) ⊎ (record { first = 2; second = 0; mark = m } ≡ sure)
    either m (inl k) = inl (Memᴰ.eq_of_singleton (subst (Memᴰ _) one_entry k))
    either m (inr k) = inr (Memᴰ.eq_of_singleton (subst (Memᴰ _) one_entry k))

    other : (m : ℕ) → (record { first = 0; second = 2; mark = m } ≡ sure) ⊎ (record { first = 2; second = 0; mark = m } ≡ sure) → ⊥
    other m (inl q) = let z : ◌≡◌ {A = ℕ} 0 3 = ap (λ (p : Entry). p.first) q in omega arith
    other m (inr q) = let z : ◌≡◌ {A = ℕ} 0 2 = ap (λ (p : Entry). p.second) q in omega arith
