-- Work numbers that have been filled for a recording E, of which the records, counts and levels were lent.
-- Assumes nothing.
use mathlib.Core.Path.{◌≡◌, sym, ap, ap₂, subst, ◌∙◌}
use mathlib.Core.Bool.{Bool}
use mathlib.Core.List.{List, []}
use Prim.Native.Nat.{ℕ}
use Rattle.model.specs.declared.Counts.{Counts}
use Rattle.model.specs.Recording.{Recording}
use Rattle.model.specs.File.{recording_by}
use Rattle.model.specs.Passes.{safe_vectors}
use Rattle.model.specs.Recorded.{recorded}
use Rattle.model.specs.Pairs.{Entry, entries, listed}
use Rattle.model.specs.Analysing.{filled}
use Rattle.model.proofs.Levels.{entries_levels}
use Rattle.pairs.specs.Lent.{WrittenList}
use Rattle.work.specs.Lent.{safe_in, recorded_in, in_work}
use Rattle.work.proofs.Parts.{safe_filled, recorded_filled}

module _ (s : List ℕ) (c : Counts) (v : List ℕ) (E : Recording) (same : recording_by s c v ≡ E) (b : ℕ) (w w' : List ℕ) (k : w' ≡ filled E b w) where
  as_lent : w' ≡ filled (recording_by s c v) b w
  as_lent = k ∙ ap (λ (F : Recording). filled F b w) (sym same)

  -- the vectors in them
  pub safe_vectors_lem : safe_in s c w' ≡ safe_vectors E b
  safe_vectors_lem = ap (safe_in s c) as_lent ∙ safe_filled s c v b w ∙ ap (λ (F : Recording). safe_vectors F b) same

  pub recorded_vectors : recorded_in s c w' ≡ recorded E
  recorded_vectors = ap (recorded_in s c) as_lent ∙ recorded_filled s c v b w ∙ ap recorded same

  -- the list written by these vectors is that of E
  pub listing : (width : ℕ) (l l' : List ℕ) (t : Bool) (n : ℕ) → WrittenList width (in_work entries s c w') l l' t n → WrittenList width (listed E b) l l' t n
  unfolding listed
  listing width l l' t n o =
      subst (λ (es : List Entry). WrittenList width es l l' t n)
      (ap₂ (entries (recording_by s c [])) safe_vectors_lem recorded_vectors ∙ entries_levels s c v (safe_vectors E b) (recorded E) ∙ ap (λ (F : Recording). entries F (safe_vectors E b) (recorded E)) same) o
