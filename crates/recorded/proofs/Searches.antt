-- The number of a rank among those that pass a test, the signal that matches a wait, and the posts that open a flag.
-- Assumes nothing.
use Prim.Native.Nat.{ℕ, ◌-◌, ◌≤◌, ◌<◌}
use Rattle.std.specs.Prelude.{Option, Some, None}
use mathlib.Core.Path.{◌≡◌, refl, sym, ap, ◌∙◌}
use mathlib.Core.Bool.{Bool, true}
use mathlib.Core.List.{[]}
use native.Mathlib.Omega.{arith}
use lib.ListN.{take}
use Rattle.model.specs.Numbers.{tally, picked, nth}
use Rattle.model.specs.Recording.{start_of, post_of, Recording, kind_of, object_of, wait, flag_wait}
use Rattle.model.specs.Passes.{signals_on, posts_on}
use Rattle.model.specs.Recorded.{waits_before, matched, opened}
use Rattle.model.proofs.Tests.{eq-eqb, ne_eqb, lt-ltb, le-ltb}
use Rattle.model.proofs.Sum.{rank_rises, rank_same}
use Rattle.model.proofs.Picked.{nth_of, nth_found}

-- the number of rank k
pub nth_here : (p : ℕ → Bool) (n k a : ℕ) → a < n → p a ≡ true → tally p a ≡ k → Some a ≡ nth (picked p n) k
nth_here p n k a l t r =
    let (x, q) = nth_found p n k (let h = rank_rises p a n l t in omega arith) in
    let (m, s, z) = nth_of p n k x q in
    ap (λ (y : ℕ). Some y) (rank_same p a x t s (r ∙ sym z)) ∙ sym q

-- there is none
pub nth_none : (p : ℕ → Bool) (n k : ℕ) → tally p n ≤ k → None ≡ nth (picked p n) k
nth_none p n k h = go (nth (picked p n) k) refl
  where
    go : (m : Option ℕ) → nth (picked p n) k ≡ m → None ≡ m
    go (Some x) q = let (l, s, z) = nth_of p n k x q in absurd (let r = rank_rises p x n l s in omega arith)
    go None q = refl

module _ (E : Recording) (e : ℕ) where
  -- a wait that the start count serves, a later one, and any other event
  pub matched_early : kind_of E e ≡ wait → waits_before E.events e < start_of E.levels (object_of E e)
      → None ≡ matched E.levels E.events e
  unfolding matched
  matched_early q h = rw (eq-eqb (kind_of E e) wait q, lt-ltb _ _ h)

  pub matched_later : kind_of E e ≡ wait → start_of E.levels (object_of E e) ≤ waits_before E.events e
      → nth (signals_on E.events (object_of E e)) (waits_before E.events e - start_of E.levels (object_of E e))
      ≡ matched E.levels E.events e
  unfolding matched
  matched_later q h = rw (eq-eqb (kind_of E e) wait q, le-ltb _ _ h)

  pub matched_other : (kind_of E e ≡ wait → ⊥) → None ≡ matched E.levels E.events e
  unfolding matched
  matched_other d = rw (ne_eqb (kind_of E e) wait d)

  -- a flag wait, and any other event
  pub opened_flag : kind_of E e ≡ flag_wait → take (post_of E.levels (object_of E e)) (posts_on E.events (object_of E e)) ≡ opened E.levels E.events e
  unfolding opened
  opened_flag q = rw (eq-eqb (kind_of E e) flag_wait q)

  pub opened_other : (kind_of E e ≡ flag_wait → ⊥) → opened E.levels E.events e ≡ []
  unfolding opened
  opened_other d = rw (ne_eqb (kind_of E e) flag_wait d)
