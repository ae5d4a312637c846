-- What analysing a file and a question about two events answer and leave, case by case.
-- Assumes nothing.
use mathlib.Core.Path.{◌≡◌, refl, sym, ◌∙◌}
use Rattle.std.specs.Prelude.{Result, Ok, Err}
use Rattle.model.specs.declared.Relation.{Relation}
use mathlib.Core.Bool.{Bool, true, false}
use mathlib.Core.List.{List, ◌++◌}
use Prim.Native.Nat.{ℕ, ◌*◌, zero-le}
use lib.ListN.{length, drop}
use Rattle.model.specs.declared.Refusal.{Refusal}
use Rattle.model.specs.Refusals.{Check, after}
use Rattle.model.specs.declared.Analysis.{Analysis}
use Rattle.model.specs.Recording.{size}
use Rattle.model.specs.File.{recording_of}
use Rattle.model.specs.Reading.{file_check}
use Rattle.model.specs.Passes.{passes_made, is_settled}
use Rattle.model.specs.Pairs.{listed, entry_numbers}
use Rattle.model.specs.Analysing.{work_fits, filled, work_check, analysis_check, done, analysis_by, analysis_of, work_after_analysing, list_after_analysing, analysed}
use Rattle.model.specs.Question.{question_check, answer_by, answer_of, work_after_asking}
use Rattle.model.proofs.Tests.{le-leb}
use Rattle.model.proofs.Nothing.{listed_none, work_none, filled_none}
use Rattle.pairs.specs.Lent.{WrittenList}
use Rattle.analysis.specs.Lent.{Analysed, Asked}

-- ---- from a check to what is answered and left

module _ (f : List ℕ) (b : ℕ) (w l : List ℕ) where
  by_analysis : (k m : Check) → work_check f w ≡ k → analysis_check f b w l ≡ m
      → (a : Result Analysis Refusal) (w' l' : List ℕ) → a ≡ analysis_by (recording_of f) b m
      → w' ≡ after k (λ _. filled (recording_of f) b w) w
      → l' ≡ after m (λ _. let es = listed (recording_of f) b in entry_numbers es ++ drop (3 * length es) l) l → Analysed f b w l a w' l'
  unfolding analysis_of work_after_analysing list_after_analysing
  by_analysis k m p q a w' l' x y z = record { answer = x ∙ rw q; work = y ∙ rw p; list = z ∙ rw q }

  -- the file's own refusal
  pub refused_file : (r : Refusal) → file_check f ≡ Err r → Analysed f b w l (Err r) w l
  unfolding analysis_check work_check
  refused_file r p = by_analysis (Err r) (Err r) (rw p) (rw p) _ _ _ refl refl refl

  module _ (p : file_check f ≡ Ok tt) where
    pub refused_work : work_fits (recording_of f) w ≡ false → Analysed f b w l (Err Refusal.Work) w l
    unfolding analysis_check work_check
    refused_work h = by_analysis (Err Refusal.Work) (Err Refusal.Work) (rw (p, h)) (rw (p, h)) _ _ _ refl refl refl

    module _ (h : work_fits (recording_of f) w ≡ true) where
      work_passed : work_check f w ≡ Ok tt
      unfolding work_check
      work_passed = rw (p, h)

      -- the list is too short, and the work numbers are filled
      pub refused_list : (w' l' : List ℕ) (n : ℕ) → w' ≡ filled (recording_of f) b w → WrittenList 3 (listed (recording_of f) b) l l' false n
          → Analysed f b w l (Err (Refusal.List n)) w' l'
      unfolding analysis_check
      refused_list w' l' n e o =
          by_analysis (Ok tt) (Err (Refusal.List n)) work_passed (rw (work_passed, sym o.room, o.counted)) _ _ _ refl e o.written

      -- all is well
      pub finished : (w' l' : List ℕ) (m n : ℕ) (s : Bool) → w' ≡ filled (recording_of f) b w → WrittenList 3 (listed (recording_of f) b) l l' true n
          → m ≡ passes_made (recording_of f) b → s ≡ is_settled (recording_of f) b → Analysed f b w l (analysed m s n) w' l'
      unfolding analysis_check
      finished w' l' m n s e o x y =
          by_analysis (Ok tt) (Ok tt) work_passed (rw (work_passed, sym o.room)) _ _ _ (rw (x, y, o.counted)) e o.written

    -- a recording without events: the lent memory stays as it was
    pub finished_none : size (recording_of f) ≡ 0 → (a : Result Analysis Refusal) → a ≡ done (recording_of f) b → Analysed f b w l a w l
    unfolding analysis_check entry_numbers
    finished_none n a e =
        let E = recording_of f in
        let fits = work_passed (work_none E n w) in
        let empty = listed_none E n b in
        by_analysis (Ok tt) (Ok tt) fits (rw (fits, empty, le-leb 0 (length l) zero-le)) _ _ _ e (sym (filled_none E n b w)) (rw empty)

module _ (f : List ℕ) (x y b : ℕ) (w : List ℕ) where
  pub by_question : (k : Check) → question_check f x y w ≡ k → (a : Result Relation Refusal) (w' : List ℕ) → a ≡ answer_by (recording_of f) x y b k
      → w' ≡ after k (λ _. filled (recording_of f) b w) w → Asked f x y b w a w'
  unfolding answer_of work_after_asking
  by_question k p a w' q r = record { answer = q ∙ rw p; work = r ∙ rw p }
