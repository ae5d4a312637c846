-- Work numbers lent in two parts, the first n numbers and those behind them.
-- Assumes nothing.
use mathlib.Core.Path.{◌≡◌, sym, ap, ap₂, ◌∙◌}
use mathlib.Core.Bool.{true}
use mathlib.Core.List.{List, [], ◌++◌, append-nil, append_assoc}
use Prim.Native.Nat.{ℕ, ◌+◌, ◌-◌, ◌*◌, ◌≤◌}
use native.Mathlib.Omega.{arith}
use lib.ListN.{length, take, drop, length-append, length-drop, drop_of_length-le}
use lib.Seq.{take_all, take_at, drop_at, drop-drop}
use borrow.Rule.Slice.PartMut.{mid_of, put_mid}
use Rattle.model.specs.declared.Counts.{Counts}
use Rattle.model.specs.Recording.{Recording, size, tasks}
use Rattle.model.specs.File.{recording_by}
use Rattle.model.specs.Vectors.{flat}
use Rattle.model.specs.Passes.{safe_vectors}
use Rattle.model.specs.Recorded.{recorded}
use Rattle.model.specs.Analysing.{work_fits, filled}
use Rattle.model.proofs.Tests.{leb-true}
use Rattle.model.proofs.Climb.{run_shaped}
use Rattle.model.proofs.Recorded.{recorded_shaped}
use Rattle.vectors.proofs.Chunks.{flat_length, chunks_flat}
use Rattle.work.specs.Lent.{numbers, Roomy, safe_in, recorded_in}

-- there is room where the test says so
pub roomy : (s : List ℕ) (c : Counts) (w : List ℕ) → work_fits (recording_by s c []) w ≡ true → Roomy s c w
roomy s c w p = leb-true (2 * numbers s c) (length w) p

-- ---- two parts to write

-- the part from a on is all that is left, and nothing is behind it
mid_tail : (a : ℕ) (xs : List ℕ) → a ≤ length xs → mid_of a (length xs - a) xs ≡ drop a xs
mid_tail a xs h = take_all (length xs - a) (drop a xs) (omega (arith, length-drop a xs))

put_tail : (a : ℕ) (xs ys : List ℕ) → a ≤ length xs → put_mid a (length xs - a) xs ys ≡ take a xs ++ ys
put_tail a xs ys h =
    let e : length (drop a xs) ≤ length xs - a = omega (arith, length-drop a xs) in
    rw (drop_of_length-le (drop a xs) e, append-nil ys)

-- the first n numbers have become p
module _ (n : ℕ) (w p : List ℕ) (k : length p ≡ n) (h : 2 * n ≤ length w) where
  long : length (p ++ drop n w) ≡ length w
  long = omega (arith, length-append p (drop n w), length-drop n w)

  the_rest : mid_of n (length (p ++ drop n w) - n) (p ++ drop n w) ≡ drop n w
  the_rest = mid_tail n (p ++ drop n w) (omega (arith, long)) ∙ drop_at p (drop n w) n k

  -- then the rest has become q
  two_parts : (q z : List ℕ) → q ≡ z ++ drop n (mid_of n (length (p ++ drop n w) - n) (p ++ drop n w))
      → put_mid n (length (p ++ drop n w) - n) (p ++ drop n w) q ≡ p ++ (z ++ drop (2 * n) w)
  two_parts q z e =
      let d : n + n ≡ 2 * n = omega arith in
      put_tail n (p ++ drop n w) q (omega (arith, long))
      ∙ ap₂ ◌++◌ (take_at p (drop n w) n k) (e ∙ ap (λ (l : List ℕ). z ++ drop n l) the_rest ∙ rw (drop-drop n n w, d))

  pub filled_by : (E : Recording) (b : ℕ) (q : List ℕ) → n ≡ size E * tasks E → p ≡ flat (safe_vectors E b)
      → q ≡ flat (recorded E) ++ drop n (mid_of n (length (p ++ drop n w) - n) (p ++ drop n w))
      → put_mid n (length (p ++ drop n w) - n) (p ++ drop n w) q ≡ filled E b w
  unfolding filled
  filled_by E b q m e f =
      two_parts q (flat (recorded E)) f ∙ sym (append_assoc p (flat (recorded E)) (drop (2 * n) w)) ∙ rw (e, m)

-- ---- the vectors in work numbers that have been filled

module _ (s : List ℕ) (c : Counts) (v : List ℕ) (b : ℕ) (w : List ℕ) where
  abbrev E : Recording
  E = recording_by s c v

  safe_length : length (flat (safe_vectors E b)) ≡ numbers s c
  safe_length = flat_length (size E) c.tasks (safe_vectors E b) (run_shaped E b)

  pub safe_filled : safe_in s c (filled E b w) ≡ safe_vectors E b
  unfolding filled
  safe_filled =
      rw (append_assoc (flat (safe_vectors E b)) (flat (recorded E)) (drop (2 * numbers s c) w), take_at (flat (safe_vectors E b)) (flat (recorded E) ++ drop (2 * numbers s c) w) (numbers s c) safe_length)
      (chunks_flat (size E) c.tasks (safe_vectors E b) (run_shaped E b))

  pub recorded_filled : recorded_in s c (filled E b w) ≡ recorded E
  unfolding filled
  recorded_filled =
      let k = flat_length (size E) c.tasks (recorded E) (recorded_shaped E) in
      rw (append_assoc (flat (safe_vectors E b)) (flat (recorded E)) (drop (2 * numbers s c) w), drop_at (flat (safe_vectors E b)) (flat (recorded E) ++ drop (2 * numbers s c) w) (numbers s c) safe_length, take_at (flat (recorded E)) (drop (2 * numbers s c) w) (numbers s c) k)
      (chunks_flat (size E) c.tasks (recorded E) (recorded_shaped E))
