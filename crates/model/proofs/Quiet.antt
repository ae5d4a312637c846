-- Settled vectors raise nothing: after a quiet pass an event has at least the numbers of every event that step 1 could take them
-- from and, for a wait, what step 2 raises to.
-- Assumes nothing.
use Prim.Native.Nat.{ℕ, zero, suc, ◌≤◌, ◌<◌, max, zero-le}
use Rattle.std.specs.Prelude.{Option, Some, None}
use mathlib.Core.Path.{◌≡◌, refl, sym, ap, subst, ◌∙◌}
use mathlib.Core.Bool.{true}
use mathlib.Core.Logic.{◌⊎◌, inl, inr}
use mathlib.Core.List.Memᴰ
use mathlib.Core.List.{List, [], ◌∷◌, Memᴰ}
use native.Mathlib.Nat.{le_refl, le_trans, le_of_eq, le_antisymm, le-max_right, not-suc-le-zero}
use native.Mathlib.Decide.{le_ind}
use native.Mathlib.Omega.{arith}
use lib.ListN.{length, get_or, set}
use lib.Seq.{get_or-set_same, get_or-set_other, set-get_or, ext_get_or}
use Rattle.model.specs.Recording.{Recording, size, tasks, event, task_of, object_of, of_task, is_fork, Accepted}
use Rattle.model.specs.Orders.{Admissible, file_order}
use Rattle.model.specs.Vectors.{Vectors, number}
use Rattle.model.specs.Passes.{previous, sources, gathered, step_one, needed, candidates, served, raised, pass_to, pass, run}
use Rattle.model.proofs.Tests.{compared, eqb-true, eq-eqb}
use Rattle.model.proofs.Least.{largest_with, largest_has}
use Rattle.model.proofs.Sources.{Source, source_of, source_precedes, last_some, last_found, fork_found, has_fork, has_join_fork, has_join_end}
use Rattle.model.proofs.FileOrder.{file_admissible}
use Rattle.model.proofs.Sound.{pass_to-length, enough}
use Rattle.model.proofs.Climb.{Shaped, gathered_length, gathered_at, raised_at_lem, raised_from, run_shaped, run_safe}
use Rattle.model.proofs.Settle.{settled_quiet}
use Rattle.model.proofs.Rise.{Rising, run_rises}

-- vectors that raising leaves as they are, each with enough candidates
pub record Closed (E : Recording) (X : Vectors) : Type 0 where
  pub from : (e s t : ℕ) → e < size E → Source E e s → number X s t ≤ number X e t
  pub served_by : (e t : ℕ) → e < size E → t < tasks E → served E X e t ≤ number X e t
  pub many : (e : ℕ) → e < size E → needed E X e ≤ length (candidates E X e)

-- ---- a quiet pass

-- in a pass an event's vector is the one that its turn gave it
turn_row : (E : Recording) (X : Vectors) → length X ≡ size E → (e n : ℕ) → e < size E → e < n
    → get_or (pass_to E X n) e [] ≡ raised E (pass_to E X e) e
unfolding pass_to
turn_row E X rows e n l h =
    le_ind (λ m. get_or (pass_to E X m) e [] ≡ raised E (pass_to E X e) e)
    (get_or-set_same (pass_to E X e) e (raised E (pass_to E X e) e) [] (let k = pass_to-length E X e in omega arith))
    (λ m k r. get_or-set_other (pass_to E X m) m e (raised E (pass_to E X m) m) [] (λ q. omega arith) ∙ r) n h

module _ (E : Recording) (X : Vectors) (shape : Shaped (size E) (tasks E) X) (quiet : pass E X ≡ X) where
  row_kept : (e : ℕ) → e < size E → raised E (pass_to E X e) e ≡ get_or X e []
  unfolding pass
  row_kept e l = sym (turn_row E X shape.rows e (size E) l l) ∙ ap (λ (Y : Vectors). get_or Y e []) quiet

  -- no turn of it changes anything
  turn_quiet : (n : ℕ) → n ≤ size E → pass_to E X n ≡ X
  unfolding pass_to
  turn_quiet zero h = refl
  turn_quiet (suc n) h =
      ap (set (pass_to E X n) n) (row_kept n h) ∙ ap (λ (Y : Vectors). set Y n (get_or X n [])) (turn_quiet n (omega arith)) ∙ set-get_or X n []

  raised_quiet : (e : ℕ) → e < size E → raised E X e ≡ get_or X e []
  raised_quiet e l = ap (λ (Y : Vectors). raised E Y e) (sym (turn_quiet e (omega arith))) ∙ row_kept e l

  -- what step 1 takes is there
  taken : (e s t : ℕ) → e < size E → s < size E → Memᴰ s (e ∷ sources E.events e) → number X s t ≤ number X e t
  taken e s t l k m = le_trans (raised_from E X e t s shape l k m) (le_of_eq (ap (λ (r : List ℕ). get_or r t 0) (raised_quiet e l)))

  module _ (o : List ℕ) (adm : Admissible E o) where
    -- step 1 raises nothing
    step_quiet : (e : ℕ) → e < size E → step_one E X e ≡ X
    unfolding step_one
    step_quiet e l =
        let row = gathered E X (sources E.events e) e in
        ap (set X e) (ext_get_or 0 row (get_or X e []) (n ∙ sym (shape.row e l)) (λ t k. line t (omega (arith, n)))) ∙ set-get_or X e []
      where
        n : length (gathered E X (sources E.events e) e) ≡ tasks E
        n = gathered_length E X (sources E.events e) e

        inside : (s : ℕ) → (s ≡ e) ⊎ Memᴰ s (sources E.events e) → s < size E
        inside s (inl q) = omega arith
        inside s (inr m) = (source_precedes E o adm e s l (source_of E e s m)).0

        line : (t : ℕ) → t < tasks E → get_or (gathered E X (sources E.events e) e) t 0 ≡ number X e t
        line t k =
            gathered_at E X (sources E.events e) e t k
            ∙ le_antisymm
            (largest_with (λ v. v ≤ number X e t) (λ s. number X s t) (e ∷ sources E.events e) zero-le
            (λ s m. taken e s t l (inside s (Memᴰ.cases_cons m)) m))
            (largest_has (λ s. number X s t) (Memᴰ.head refl))

    -- and step 2 neither
    served_quiet : (e t : ℕ) → e < size E → t < tasks E → served E X e t ≤ number X e t
    served_quiet e t l k =
        le_trans (subst (λ (Y : Vectors). served E X e t ≤ max (number Y e t) (served E Y e t)) (sym (step_quiet e l)) (le-max_right _ _))
        (le_of_eq (sym (raised_at_lem E X e t k) ∙ ap (λ (r : List ℕ). get_or r t 0) (raised_quiet e l)))

    module _ (rises : Rising E X) where
      -- a task's events have the numbers of its fork
      fork_quiet : (n e f t : ℕ) → e < n → e < size E → f < size E → is_fork (task_of E e) (event E f) ≡ true → number X f t ≤ number X e t
      fork_quiet zero e f t h l k q = absurd (not-suc-le-zero h)
      fork_quiet (suc n) e f t h l k q = go (previous E.events e) refl (λ p u i j. fork_quiet n p f t u i k j)
        where
          go : (m : Option ℕ) → previous E.events e ≡ m
              → ((p : ℕ) → p < n → p < size E → is_fork (task_of E p) (event E f) ≡ true → number X f t ≤ number X p t)
              → number X f t ≤ number X e t
          go None r ih = taken e f t l k (Memᴰ.tail (has_fork E e f r (fork_found E o adm (task_of E e) f k q)))
          go (Some p) r ih =
              let w = last_some (λ a. of_task (task_of E e) (event E a)) e p r in
              let own = eqb-true (task_of E p) (task_of E e) w.passes in
              let less = w.inside in
              le_trans (ih p (omega arith) (omega arith) (subst (λ (x : ℕ). is_fork x (event E f) ≡ true) (sym own) q))
              (rises p e t less l own)

      source_quiet : (e s t : ℕ) → e < size E → Source E e s → number X s t ≤ number X e t
      source_quiet e s t l (Source.before k q) = rises s e t k l q
      source_quiet e s t l (Source.forked k q) = fork_quiet (suc e) e s t (le_refl (suc e)) l k q
      source_quiet e s t l (Source.join_fork j k q) =
          taken e s t l k (Memᴰ.tail (has_join_fork E e s j (fork_found E o adm (object_of E e) s k q)))
      source_quiet e s t l (Source.join_end j k q) =
          let (z, f, r, h) = last_found (λ a. of_task (object_of E e) (event E a)) (size E) s k (eq-eqb _ _ q) in
          let last = taken e z t l r.inside (Memᴰ.tail (has_join_end E e z j f)) in
          compared s z (λ u. le_trans (rises s z t u r.inside (q ∙ sym (eqb-true (task_of E z) (object_of E e) r.passes))) last)
          (λ u. le_trans (le_of_eq (ap (λ (x : ℕ). number X x t) u)) last) (λ u. absurd (omega arith))

-- ---- settled vectors are closed

pub settled_closed : (E : Recording) → Accepted E → (b : ℕ) → (run E b).settled ≡ true → Closed E (run E b).vectors
settled_closed E acc b q =
    let X = (run E b).vectors in
    let adm = file_admissible E acc in
    let shape = run_shaped E b in
    let quiet = settled_quiet E b q in
    record {
      from = λ e s t l h. source_quiet E X shape quiet (file_order E) adm (run_rises E b) e s t l h;
      served_by = λ e t l k. served_quiet E X shape quiet (file_order E) adm e t l k;
      many = λ e l. enough E (file_order E) adm X (run_safe E (file_order E) adm b) e l;
    }
