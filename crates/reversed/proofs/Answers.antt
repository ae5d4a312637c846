-- What the call answers and leaves, case by case: a question's refusals, and what is written of an accepted file.
-- Assumes nothing.
use Prim.Native.Nat.{ℕ}
use Rattle.std.specs.Prelude.{Result, Ok, Err}
use mathlib.Core.Path.{◌≡◌, ap, ◌∙◌}
use mathlib.Core.List.{List}
use Rattle.model.specs.declared.Counts.{Counts}
use Rattle.model.specs.declared.Trailer.{Trailer}
use Rattle.model.specs.declared.Refusal.{Refusal}
use Rattle.model.specs.Refusals.{Check}
use Rattle.model.specs.Recording.{Recording}
use Rattle.model.specs.File.{trailer_of, record_bytes, level_bytes, recording_by, recording_of}
use Rattle.model.specs.Reading.{reading_of}
use Rattle.model.specs.Vectors.{Vectors}
use Rattle.model.specs.Recorded.{recorded}
use Rattle.model.specs.Analysing.{filled}
use Rattle.model.specs.Question.{question_check, work_after_asking}
use Rattle.model.specs.Reversed.{reversed_file, reversed_check, reversed_of, work_after_reversing, out_after_reversing}
use Rattle.recording.proofs.Files.{accepted_is}
use Rattle.work.specs.Lent.{recorded_in}
use Rattle.work.proofs.Accepted.{parts_recording}
use Rattle.work.proofs.Filled.{recorded_vectors}
use Rattle.work.proofs.Questions.{Checked, question_asked}
use Rattle.reversed.specs.Lent.{Reversed}
use Rattle.reversed.proofs.Forward.{Wrote}

module _ (f : List ℕ) (x y : ℕ) (w o : List ℕ) where
  pub refused_question : (r : Refusal) → question_check f x y w ≡ Err r → Reversed f x y w o (Err r) w o
  unfolding reversed_check reversed_of work_after_reversing work_after_asking out_after_reversing
  refused_question r p = record { answer = rw p; work = rw p; out = rw p }

  -- the records s, the counts c and the level bytes b of the file, and its recorded vectors X
  by_parts : question_check f x y w ≡ Ok tt
      → (s : List ℕ) (c : Counts) (b : List ℕ) (X : Vectors) → s ≡ record_bytes f (trailer_of f) → c ≡ (trailer_of f).counts → b ≡ level_bytes f (trailer_of f) → X ≡ recorded (recording_of f)
      → (w' : List ℕ) → w' ≡ filled (recording_of f) 0 w
      → (a : Result ℕ Refusal) (o' : List ℕ) → Wrote s c b X x y o a o' → Reversed f x y w o a w' o'
  unfolding reversed_file reversed_check reversed_of work_after_reversing work_after_asking out_after_reversing recording_of
  by_parts p s c b X q r t u w' k a o' (g, h) =
      record { answer = g ∙ rw (p, q, t, u); work = k ∙ rw p; out = h ∙ rw (p, q, r, t, u) }

  -- the checks at the parts of the file answer k, and leave w'
  module _ (h : Trailer) (q : reading_of f ≡ Ok h) (s : List ℕ) (e : s ≡ record_bytes f h) (n : Counts) (d : n ≡ h.counts) (v : List ℕ) (g : v ≡ level_bytes f h)
      (k : Check) (w' : List ℕ) (c : Checked (recording_by s n v) x y 0 w k w') where
    the_check : question_check f x y w ≡ k
    the_check = question_asked f h q s e v g x y w k (rw d at c.0)

    pub refused : (r : Refusal) → k ≡ Err r → Reversed f x y w o (Err r) w' o
    refused r p = let left : w' ≡ w = rw p at c.1 in rw left (refused_question r (the_check ∙ p))

    pub written_forward : k ≡ Ok tt → (X : Vectors) → X ≡ recorded_in s n w'
        → (a : Result ℕ Refusal) (o' : List ℕ) → Wrote s n v X x y o a o' → Reversed f x y w o a w' o'
    written_forward p X u a o' t =
        let same = parts_recording f h q s e n d v g in
        let full : w' ≡ filled (recording_by s n v) 0 w = rw p at c.1 in
        let left = full ∙ ap (λ (F : Recording). filled F 0 w) same in
        let z = (accepted_is f h q).0 in
        by_parts (the_check ∙ p) s n v X (e ∙ ap (record_bytes f) z) (d ∙ ap (λ (t : Trailer). t.counts) z) (g ∙ ap (level_bytes f) z)
        (u ∙ recorded_vectors s n v (recording_of f) same 0 w w' left) w' left a o' t
