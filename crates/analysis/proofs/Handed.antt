-- What analysing hands back is what the promises speak of: it answers so only where every check passed.
-- Assumes nothing.
use mathlib.Core.Path.{◌≡◌, refl, ap, ◌∙◌}
use Rattle.std.specs.Prelude.{Ok, Err}
use mathlib.Core.Bool.{Bool}
use mathlib.Core.List.{List}
use Prim.Native.Nat.{ℕ}
use native.Mathlib.Omega.{arith}
use lib.ListN.{length}
use Rattle.model.specs.Refusals.{Check}
use Rattle.model.specs.declared.Analysis.{Analysis}
use Rattle.model.specs.File.{trailer_of, recording_of}
use Rattle.model.specs.Reading.{file_check, reading_of}
use Rattle.model.specs.Passes.{passes_made, is_settled}
use Rattle.model.specs.Pairs.{listed}
use Rattle.model.specs.Analysing.{work_check, analysis_check, analysis_by, analysis_of, list_after_analysing, analysed}
use Rattle.model.proofs.Checks.{then_passed}
use Rattle.model.proofs.Promise.{promise}
use Rattle.analysis.specs.Handed.{HandedBack}

-- an answer with a list is given where every check passed
all_passed : (f : List ℕ) (b m : ℕ) (s : Bool) (n : ℕ) (k : Check) → analysed m s n ≡ analysis_by (recording_of f) b k → k ≡ Ok tt
all_passed f b m s n (Ok tt) e = refl
all_passed f b m s n (Err r) e = let z : ◌≡◌ {A = ℕ} 0 1 = cc in absurd (omega arith)

file_passed : (f : List ℕ) (b : ℕ) (w l : List ℕ) → analysis_check f b w l ≡ Ok tt → file_check f ≡ Ok tt
unfolding analysis_check work_check
file_passed f b w l h = (then_passed (file_check f) _ (then_passed (work_check f w) _ h).0).0

pub handed : HandedBack
unfolding analysis_of list_after_analysing reading_of
handed f b w l m s n w' l' a =
    let k : analysis_check f b w l ≡ Ok tt = all_passed f b m s n (analysis_check f b w l) a.answer in
    let d : analysed m s n ≡ analysed (passes_made (recording_of f) b) (is_settled (recording_of f) b) (length (listed (recording_of f) b)) =
    a.answer ∙ ap (analysis_by (recording_of f) b) k in
    let same : ◌≡◌ {A = Analysis} (record { passes = m; settled = s; pairs = n })
    (record { passes = passes_made (recording_of f) b; settled = is_settled (recording_of f) b; pairs = length (listed (recording_of f) b) }) = cc in
    let x : n ≡ length (listed (recording_of f) b) = ap (λ (a : Analysis). a.pairs) same in
    record {
      passes = ap (λ (a : Analysis). a.passes) same;
      settled = ap (λ (a : Analysis). a.settled) same;
      pairs = x;
      entries = a.list ∙ rw (k, x);
      promise = promise f (trailer_of f) (rw (file_passed f b w l k)) b;
    }
