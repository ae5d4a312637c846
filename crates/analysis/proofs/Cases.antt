-- The cases of an accepted file, as its records and the lent numbers show them.
-- Assumes nothing.
use mathlib.Core.Path.{◌≡◌, refl, sym, ap, ap₂, ◌∙◌}
use Rattle.std.specs.Prelude.{Result, Ok, Err}
use mathlib.Core.Bool.{Bool, true, false}
use mathlib.Core.List.{List}
use Prim.Native.Nat.{ℕ}
use Rattle.model.specs.declared.Counts.{Counts}
use Rattle.model.specs.declared.Trailer.{Trailer}
use Rattle.model.specs.declared.Refusal.{Refusal}
use Rattle.model.specs.Refusals.{Check, after}
use Rattle.model.specs.declared.Analysis.{Analysis}
use Rattle.model.specs.declared.Relation.{Relation}
use Rattle.model.specs.Recording.{Recording, size}
use Rattle.model.specs.File.{record_bytes, level_bytes, recording_by, recording_of}
use Rattle.model.specs.Reading.{reading_of}
use Rattle.model.specs.Passes.{passes_made, is_settled}
use Rattle.model.specs.Vectors.{Vectors}
use Rattle.model.specs.Pairs.{entries, listed}
use Rattle.model.specs.Analysing.{work_fits, filled, done, analysed}
use Rattle.model.specs.Question.{relation_by, relation_of, answer_by}
use Rattle.model.proofs.Files.{sound, size_records}
use Rattle.recording.proofs.Files.{accepted_is}
use Rattle.pairs.specs.Lent.{WrittenList}
use Rattle.work.specs.Lent.{in_work}
use Rattle.work.proofs.Accepted.{passed, parts_recording}
use Rattle.work.proofs.Questions.{Checked, question_asked}
use Rattle.work.proofs.Filled.{safe_vectors_lem, recorded_vectors, listing}
use Rattle.analysis.specs.Lent.{Analysed, Asked}
use Rattle.analysis.proofs.Answers.{refused_work, refused_list, finished, finished_none, by_question}

-- the trailer counts no record
pub no_records : (f : List ℕ) (h : Trailer) → reading_of f ≡ Ok h → h.records ≡ 0 → (b : ℕ) (w l : List ℕ) (a : Result Analysis Refusal)
    → ((E : Recording) → size E ≡ 0 → a ≡ done E b) → Analysed f b w l a w l
no_records f h q z b w l a r =
    let (e, p) = accepted_is f h q in
    let n : size (recording_of f) ≡ 0 = size_records f (sound f p) ∙ ap (λ (x : Trailer). x.records) (sym e) ∙ z in
    finished_none f b w l p n a (r (recording_of f) n)

-- the records s, the counts n and the level bytes v are the parts of the file
module _ (f : List ℕ) (h : Trailer) (q : reading_of f ≡ Ok h) (s : List ℕ) (e : s ≡ record_bytes f h) (n : Counts) (d : n ≡ h.counts) (v : List ℕ) (g : v ≡ level_bytes f h) (b : ℕ) (w : List ℕ) where
  abbrev E : Recording
  E = recording_by s n v

  same : E ≡ recording_of f
  same = parts_recording f h q s e n d v g

  fits : (x : Bool) → work_fits E w ≡ x → work_fits (recording_of f) w ≡ x
  fits x p = sym (ap (λ (F : Recording). work_fits F w) same) ∙ p

  -- ---- analysing

  pub short_work : (l : List ℕ) → work_fits E w ≡ false → Analysed f b w l (Err Refusal.Work) w l
  short_work l p = refused_work f b w l (passed f h q) (fits false p)

  module _ (p : work_fits E w ≡ true) (w' : List ℕ) (k : w' ≡ filled E b w) where
    now_filled : w' ≡ filled (recording_of f) b w
    now_filled = k ∙ ap (λ (F : Recording). filled F b w) same

    module _ (l l' : List ℕ) (m : ℕ) where
      in_list : (t : Bool) → WrittenList 3 (in_work entries s n w') l l' t m → WrittenList 3 (listed (recording_of f) b) l l' t m
      in_list t = listing s n v (recording_of f) same b w w' now_filled 3 l l' t m

      -- done where the entries fit, and else 10
      pub ended : (k : ℕ) (x : Bool) → k ≡ passes_made E b → x ≡ is_settled E b → WrittenList 3 (in_work entries s n w') l l' true m
          → Analysed f b w l (analysed k x m) w' l'
      ended k x u z o =
          finished f b w l (passed f h q) (fits true p) w' l' k m x now_filled (in_list true o) (u ∙ ap (λ (F : Recording). passes_made F b) same)
          (z ∙ ap (λ (F : Recording). is_settled F b) same)

      pub short_list : WrittenList 3 (in_work entries s n w') l l' false m → Analysed f b w l (Err (Refusal.List m)) w' l'
      short_list o = refused_list f b w l (passed f h q) (fits true p) w' l' m now_filled (in_list false o)

  -- ---- the question

  -- the checks answer k, and leave w'
  module _ (x y : ℕ) (k : Check) (w' : List ℕ) (c : Checked E x y b w k w') where
    asked : (a : Result Relation Refusal) → a ≡ answer_by (recording_of f) x y b k → Asked f x y b w a w'
    asked a p = by_question f x y b w k (question_asked f h q s e v g x y w k (rw d at c.0)) a w' p (c.1 ∙ ap (λ (F : Recording). after k (λ _. filled F b w) w) same)

    pub refused : (r : Refusal) → k ≡ Err r → Asked f x y b w (Err r) w'
    refused r p = asked (Err r) (rw p)

    pub answered : k ≡ Ok tt → (r : Relation) → r ≡ in_work relation_by s n w' x y → Asked f x y b w (Ok r) w'
    unfolding relation_of
    answered p r u =
        let full : w' ≡ filled E b w = rw p at c.1 in
        asked (Ok r)
        (rw p
        (ap (λ (z : Relation). Ok z)
        (u ∙ ap₂ (λ (X R : Vectors). relation_by E X R x y) (safe_vectors_lem s n v E refl b w w' full) (recorded_vectors s n v E refl b w w' full) ∙ ap (λ (F : Recording). relation_of F x y b) same)))
