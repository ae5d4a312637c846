-- What writing the records with an event brought forward answers and leaves, case by case.
-- Assumes nothing.
use Prim.Native.Nat.{ℕ, ◌+◌, ◌*◌, ◌≤◌}
use Rattle.std.specs.Prelude.{Result}
use mathlib.Core.Path.{◌≡◌, ap, ◌∙◌}
use mathlib.Core.Bool.{true}
use mathlib.Core.List.{List, ◌++◌}
use native.Mathlib.Omega.{arith}
use borrow.Author.Tests.{le-leb}
use lib.ListN.{length, drop}
use Rattle.model.specs.declared.Counts.{Counts}
use Rattle.model.specs.declared.Refusal.{Refusal}
use Rattle.model.specs.File.{events_of}
use Rattle.model.specs.Vectors.{Vectors, unordered}
use Rattle.model.specs.Writing.{file_in, file_length}
use Rattle.model.specs.Reversed.{bring_forward}
use Rattle.layout.specs.Picks.{Picks}
use Rattle.reversed.specs.Lent.{forward_of, forward_out}
use Rattle.reversed.proofs.Sides.{forward_length, forward_below}

-- the order o of the records s that brings x forward names each of them once
module _ (s : List ℕ) (whole : length s ≡ 4 * length (events_of s)) (X : Vectors) (x : ℕ) (o : List ℕ) (e : o ≡ bring_forward (events_of s) X x) where
  pub order_length : length o ≡ length (events_of s)
  order_length = ap length e ∙ forward_length (events_of s) X x

  pub order_picks : Picks s o
  order_picks i h = rw e (let k = forward_below (events_of s) X x i (rw e at h) in omega (arith, whole))

module _ (s : List ℕ) (c : Counts) (b : List ℕ) (X : Vectors) (x y : ℕ) (out : List ℕ) where
  -- the answer and the output are as the definitions have them
  abbrev pub Wrote : Result ℕ Refusal → List ℕ → Type 0
  Wrote r out' = (r ≡ forward_of s b X x y out) × (out' ≡ forward_out s c b X x y out)

  -- where the vectors order neither event, and there is room, the file is written
  pub written : unordered (events_of s) X x y ≡ true → file_length s b ≤ length out → length s ≡ 4 * length (events_of s) → (o : List ℕ) → o ≡ bring_forward (events_of s) X x
      → (out' : List ℕ) → out' ≡ file_in s o c b ++ drop (4 * length o + length b + 16) out → out' ≡ forward_out s c b X x y out
  written p l whole o e out' q =
      let r = le-leb (file_length s b) (length out) l in
      let n : 4 * length o + length b + 16 ≡ file_length s b = omega (arith, order_length s whole X x o e, whole) in
      q ∙ rw (p, r, n, e)
