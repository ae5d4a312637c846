-- What comparing hands back is what the promise speaks of: it answers so only where every check passed.
-- Assumes nothing.
use mathlib.Core.Path.{◌≡◌, refl, ap, ◌∙◌}
use Rattle.std.specs.Prelude.{Ok, Err}
use mathlib.Core.Bool.{true}
use mathlib.Core.List.{List}
use Prim.Native.Nat.{ℕ}
use native.Mathlib.Omega.{arith}
use Rattle.model.specs.declared.Refusal.{Refusal}
use Rattle.model.specs.Refusals.{Check}
use Rattle.model.specs.Recording.{Recording}
use Rattle.model.specs.File.{trailer_of, recording_of}
use Rattle.model.specs.Reading.{file_check, reading_of}
use Rattle.model.specs.Analysing.{work_fits, work_check, work_after_analysing}
use Rattle.model.proofs.Checks.{unless_passed, then_passed}
use Rattle.stretches.specs.declared.Stretch.{Stretch}
use Rattle.stretches.specs.declared.Lead.{Lead}
use Rattle.stretches.specs.Stretches.{lead_of, two_stretches, stretch_check, comparing_check, compared_by, compared_of, work_after_comparing}
use Rattle.stretches.specs.Handed.{HandedBack}
use Rattle.stretches.proofs.AllEvents.{stretch_promise}

-- an answer is given where every check passed
all_passed : (E : Recording) (r s : Stretch) (b : ℕ) (x : Lead) (k : Check) → Ok x ≡ compared_by E r s b k → k ≡ Ok tt
all_passed E r s b x (Ok tt) e = refl
all_passed E r s b x (Err y) e = let z : ◌≡◌ {A = ℕ} 0 1 = cc in absurd (omega arith)

-- each of them
each_passed : (f : List ℕ) (r s : Stretch) (w : List ℕ) → comparing_check f r s w ≡ Ok tt
    → (file_check f ≡ Ok tt) × (two_stretches (recording_of f) r s ≡ true) × (work_fits (recording_of f) w ≡ true)
unfolding comparing_check stretch_check
each_passed f r s w h =
    let (p, q) = then_passed (file_check f) _ h in
    let (t, u) = unless_passed (two_stretches (recording_of f) r s) Refusal.Stretch _ q in
    (p, t, (unless_passed (work_fits (recording_of f) w) Refusal.Work _ u).0)

pub handed : HandedBack
unfolding compared_of work_after_comparing work_after_analysing work_check reading_of
handed f r s b x w w' a =
    let k : comparing_check f r s w ≡ Ok tt = all_passed (recording_of f) r s b x (comparing_check f r s w) a.answer in
    let (p, two, fits) = each_passed f r s w k in
    let d : Ok x ≡ Ok (lead_of (recording_of f) r s b) = a.answer ∙ ap (compared_by (recording_of f) r s b) k in
    record {
      answer = cc;
      promise = stretch_promise f (trailer_of f) (rw p) r s two b;
      work = a.work ∙ rw (k, p, fits);
    }
