-- What comparing two stretches answers and leaves, case by case.
-- Assumes nothing.
use mathlib.Core.Path.{◌≡◌, refl, sym, ap, ◌∙◌}
use Rattle.std.specs.Prelude.{Ok, Err, is_some}
use mathlib.Core.Bool.{Bool, true, false, ◌&&◌}
use mathlib.Core.List.{List}
use Prim.Native.Nat.{ℕ}
use native.Mathlib.Omega.{arith}
use lib.Dec.{leb, ltb}
use Rattle.model.specs.declared.Event.{Event}
use Rattle.model.specs.declared.Trailer.{Trailer}
use Rattle.model.specs.declared.Refusal.{Refusal}
use Rattle.model.specs.Recording.{Recording, tasks}
use Rattle.model.specs.File.{recording_of}
use Rattle.model.specs.Reading.{file_check, reading_of}
use Rattle.model.specs.Vectors.{Vectors}
use Rattle.model.specs.Passes.{safe_vectors}
use Rattle.model.specs.Together.{at_position}
use Rattle.model.proofs.Tests.{all_three, and_alike, leb-true}
use Rattle.model.proofs.Rise.{run_rises}
use Rattle.work.proofs.Accepted.{passed}
use Rattle.stretches.specs.declared.Stretch.{Stretch}
use Rattle.stretches.specs.Stretches.{before, lead_of, is_stretch, two_stretches, stretch_check, comparing_check, compared_of, work_after_comparing}
use Rattle.stretches.specs.AllEvents.{ByEnds}
use Rattle.stretches.specs.Lent.{ends_ordered, lead_by_ends, ComparedAs}
use Rattle.stretches.proofs.Events.{has_position}
use Rattle.stretches.proofs.Ends.{both_ends}

-- a stretch by the event at its last position
pub stretch_found : (E : Recording) (s : Stretch) (found : Bool) → found ≡ is_some (at_position E.events s.task s.last)
    → (ltb s.task (tasks E) && leb 1 s.first && leb s.first s.last && found) ≡ is_stretch E s
unfolding is_stretch
stretch_found E s found q =
    let a = ltb s.task (tasks E) in
    and_alike (a && leb 1 s.first && leb s.first s.last)
    (λ t.
    let (_, i, j) = all_three a (leb 1 s.first) (leb s.first s.last) t in
    let low = leb-true 1 s.first i in
    let order = leb-true s.first s.last j in
    q ∙ sym (has_position E.events s.task s.last (omega arith)))

-- the ends decide
by_found : (l : List Event) (X : Vectors) (r s : Stretch) → ByEnds l X r s → ends_ordered l X r s ≡ before l X r s
unfolding ends_ordered
by_found l X r s (a, b, p, q, h) = rw (p, q) (sym h)

pub by_ends : (E : Recording) (b : ℕ) (r s : Stretch) → two_stretches E r s ≡ true → lead_by_ends E.events (safe_vectors E b) r s ≡ lead_of E r s b
unfolding lead_of
by_ends E b r s two =
    let (p, q) = both_ends E (safe_vectors E b) (run_rises E b) r s two in
    rw (by_found E.events (safe_vectors E b) r s p, by_found E.events (safe_vectors E b) s r q)

-- with the vectors of work numbers that have been filled
pub lead_filled : (E : Recording) (b : ℕ) (r s : Stretch) → two_stretches E r s ≡ true → (X : Vectors) → X ≡ safe_vectors E b
    → lead_by_ends E.events X r s ≡ lead_of E r s b
lead_filled E b r s two X q = ap (λ (X : Vectors). lead_by_ends E.events X r s) q ∙ by_ends E b r s two

-- ---- from the checks of a recording to those of its file

-- its own refusal comes first
pub refused_file : (f : List ℕ) (r s : Stretch) (b : ℕ) (w : List ℕ) (x : Refusal) → file_check f ≡ Err x
    → (Err x ≡ compared_of f r s b w) × (w ≡ work_after_comparing f r s b w)
unfolding compared_of work_after_comparing comparing_check
refused_file f r s b w x p = rw p (refl, refl)

-- of a file that reading accepts
pub of_file : (f : List ℕ) (h : Trailer) → reading_of f ≡ Ok h → (E : Recording) → E ≡ recording_of f → (r s : Stretch) (w : List ℕ)
    → stretch_check E r s w ≡ comparing_check f r s w
unfolding comparing_check
of_file f h q E same r s w = rw (passed f h q, same) refl

-- no two stretches: 17, and the work numbers are left as they were
pub refused_stretch : (f : List ℕ) (h : Trailer) → reading_of f ≡ Ok h → (E : Recording) → E ≡ recording_of f → (r s : Stretch) (b : ℕ) (w : List ℕ)
    → two_stretches E r s ≡ false → ComparedAs f r s b w (Err Refusal.Stretch) w
unfolding compared_of work_after_comparing stretch_check
refused_stretch f h q E same r s b w p =
    let k : stretch_check E r s w ≡ Err Refusal.Stretch = rw p refl in
    let j : comparing_check f r s w ≡ Err Refusal.Stretch = sym (of_file f h q E same r s w) ∙ k in
    record { answer = rw j refl; work = rw j refl }
