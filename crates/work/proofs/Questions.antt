-- The checks of a question about two events of a file: what it shows that they pass, and what they are of the whole file.
-- Assumes nothing.
use mathlib.Core.Path.{◌≡◌, sym, ap, ◌∙◌}
use Rattle.std.specs.Prelude.{Ok, Err}
use mathlib.Core.Bool.{not}
use mathlib.Core.List.{List}
use Prim.Native.Nat.{ℕ}
use lib.Dec.{eqb, ltb}
use Rattle.model.specs.declared.Counts.{Counts}
use Rattle.model.specs.declared.Trailer.{Trailer}
use Rattle.model.specs.declared.Refusal.{Refusal}
use Rattle.model.specs.Refusals.{Check, after}
use Rattle.model.specs.Recording.{Recording, size}
use Rattle.model.specs.File.{record_bytes, level_bytes, recording_by}
use Rattle.model.specs.Reading.{file_check, reading_of}
use Rattle.model.specs.Analysing.{work_fits, filled}
use Rattle.model.specs.Question.{two_events, asked_check, question_check}
use Rattle.model.proofs.Tests.{all_three, ltb-true}
use Rattle.model.proofs.Checks.{unless_passed}
use Rattle.passes.specs.Lent.{Numbered}
use Rattle.work.specs.Lent.{Roomy}
use Rattle.work.proofs.Parts.{roomy}
use Rattle.work.proofs.Accepted.{passed, the_recording}

-- ---- the checks at records, with work numbers w

-- they answer k and leave w'
abbrev pub Checked : Recording → ℕ → ℕ → ℕ → List ℕ → Check → List ℕ → Type 0
Checked E x y b w k w' = (k ≡ asked_check E x y w) × (w' ≡ after k (λ _. filled E b w) w)

-- where they pass there are two events, and room
pub asked_passed : (s : List ℕ) (c : Counts) (v : List ℕ) (x y : ℕ) (w : List ℕ) → asked_check (recording_by s c v) x y w ≡ Ok tt
    → (Numbered s x × Numbered s y) × Roomy s c w
unfolding asked_check
asked_passed s c v x y w p =
    let E = recording_by s c v in
    let n = size E in
    let (t, z) = unless_passed (two_events E x y) _ _ p in
    let (r, _) = unless_passed (work_fits E w) _ _ z in
    let (a, b, _) = all_three (ltb x n) (ltb y n) (not (eqb x y)) t in
    ((ltb-true x n a, ltb-true y n b), roomy s c w r)

-- ---- of the whole file

-- its own refusal comes first
pub question_file : (f : List ℕ) (x y : ℕ) (w : List ℕ) (r : Refusal) → file_check f ≡ Err r → question_check f x y w ≡ Err r
unfolding question_check
question_file f x y w r p = rw p

-- then the checks at the records s and the level bytes v that are cut out of it
pub question_asked : (f : List ℕ) (h : Trailer) → reading_of f ≡ Ok h → (s : List ℕ) → s ≡ record_bytes f h → (v : List ℕ) → v ≡ level_bytes f h
    → (x y : ℕ) (w : List ℕ) (k : Check) → k ≡ asked_check (recording_by s h.counts v) x y w → question_check f x y w ≡ k
unfolding question_check asked_check
question_asked f h q s e v g x y w k p =
    rw (passed f h q) (sym (p ∙ ap (λ (F : Recording). asked_check F x y w) (the_recording f h q s e v g)))
