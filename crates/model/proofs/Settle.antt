-- N * N + 1 passes settle: each pass that is not quiet raises the sum of all numbers, and that sum is at most N * N.
-- Assumes nothing.
use Prim.Native.Nat.{ℕ, zero, suc, ◌*◌, ◌≤◌, ◌<◌, zero-le}
use mathlib.Core.Path.{◌≡◌, refl, sym, ap, ap₂, subst, ◌∙◌}
use mathlib.Core.Bool.{true, false, cond, ◌&&◌}
use mathlib.Core.List.{List, [], ◌∷◌}
use native.Mathlib.Nat.{le_refl, le_trans, le_of_eq}
use native.Mathlib.Omega.{arith}
use lib.Dec.{leb, ltb, eqb}
use lib.ListN.{get_or}
use lib.Seq.{ext_get_or}
use Rattle.model.specs.Numbers.{bit, sum, tally}
use Rattle.model.specs.Recording.{event, of_task, Recording, size, task_of, tasks}
use Rattle.model.specs.Orders.{place, Admissible}
use Rattle.model.specs.Vectors.{Vectors, number}
use Rattle.model.specs.Passes.{pass, same_row, same, run}
use Rattle.model.proofs.Tests.{cases, clash, both, first, second, tests, bit_false, ltb-true, ltb-false, eqb-true, eq-eqb, ne_eqb}
use Rattle.model.proofs.Sum.{sum_le, sum_add, sum_single, sum_nothing, sum_bound, sum_equal, tally_le}
use Rattle.model.proofs.Sound.{Safe, seen}
use Rattle.model.proofs.Climb.{Shaped, AtMost, pass_shaped, pass_up, run_next, run_shaped, run_safe}

-- ---- the test for a quiet pass

same_row_refl : (l : List ℕ) → same_row l l ≡ true
same_row_refl [] = refl
same_row_refl (x ∷ l) = both (eq-eqb x x refl) (same_row_refl l)

pub same_refl : (X : Vectors) → same X X ≡ true
same_refl [] = refl
same_refl (r ∷ X) = both (same_row_refl r) (same_refl X)

same_row_eq : (l m : List ℕ) → same_row l m ≡ true → l ≡ m
same_row_eq [] [] h = refl
same_row_eq [] (y ∷ m) h = clash h refl
same_row_eq (x ∷ l) [] h = clash h refl
same_row_eq (x ∷ l) (y ∷ m) h = ap₂ (λ (a : ℕ) (b : List ℕ). a ∷ b) (eqb-true x y (first (eqb x y) _ h)) (same_row_eq l m (second (eqb x y) _ h))

pub same_eq : (X Y : Vectors) → same X Y ≡ true → X ≡ Y
same_eq [] [] h = refl
same_eq [] (y ∷ Y) h = clash h refl
same_eq (x ∷ X) [] h = clash h refl
same_eq (x ∷ X) (y ∷ Y) h = ap₂ (λ (a : List ℕ) (b : Vectors). a ∷ b) (same_row_eq x y (first (same_row x y) _ h)) (same_eq X Y (second (same_row x y) _ h))

-- ---- the sum of all numbers

-- each event is of one task
one_task : (x T : ℕ) → sum (λ t. bit (eqb x t)) T ≤ 1
one_task x T =
    cases (ltb x T)
    (λ h.
    le_trans
    (sum_le (λ t. bit (eqb x t)) (λ t. cond (eqb t x) 1 0) T
    (λ t l. cases (eqb x t) (λ q. rw (q, eq-eqb t x (sym (eqb-true x t q))) (le_refl 1)) (λ q. rw q zero-le)))
    (le_of_eq (sum_single (λ t. 1) x T (ltb-true x T h))))
    (λ h. let z = sum_nothing (λ t. bit (eqb x t)) T (λ t l. bit_false (ne_eqb x t (λ q. omega tests))) in omega arith)

pub tasks_total : (E : Recording) (n : ℕ) → sum (λ t. tally (λ a. of_task t (event E a)) n) (tasks E) ≤ n
unfolding sum
tasks_total E zero = le_of_eq (sum_nothing (λ t. 0) (tasks E) (λ t l. refl))
tasks_total E (suc n) =
    let a = sum_add (λ t. tally (λ a. of_task t (event E a)) n) (λ t. bit (eqb (task_of E n) t)) (tasks E) in
    let b = tasks_total E n in
    let c = one_task (task_of E n) (tasks E) in omega arith

pub total : Recording → Vectors → ℕ
total E X = sum (λ e. sum (λ t. number X e t) (tasks E)) (size E)

module _ (E : Recording) where
  total_bound : (o : List ℕ) (X : Vectors) → Safe E o X → total E X ≤ size E * size E
  unfolding total
  total_bound o X safe =
      sum_bound (λ e. sum (λ t. number X e t) (tasks E)) (size E) (size E)
      (λ e l.
      le_trans
      (sum_le (λ t. number X e t) (λ t. tally (λ a. of_task t (event E a)) (size E)) (tasks E) (λ t k. le_trans (safe e t l) (all e t)))
      (tasks_total E (size E)))
    where
      all : (e t : ℕ) → seen E o e t ≤ tally (λ a. of_task t (event E a)) (size E)
      all e t = tally_le (λ a. of_task t (event E a) && leb (place o a) (place o e)) (λ a. of_task t (event E a)) (size E) (λ a k q. first (of_task t (event E a)) _ q)

  -- vectors that are at most others, with no smaller sum, are the same
  total_same : (X Y : Vectors) → Shaped (size E) (tasks E) X → Shaped (size E) (tasks E) Y → AtMost X Y → total E Y ≤ total E X → X ≡ Y
  unfolding total
  total_same X Y s r up h =
      ext_get_or [] X Y (s.rows ∙ sym r.rows) (λ e l. let n = s.rows in line e (omega arith))
    where
      line : (e : ℕ) → e < size E → get_or X e [] ≡ get_or Y e []
      line e l =
          ext_get_or 0 (get_or X e []) (get_or Y e []) (s.row e l ∙ sym (r.row e l))
          (λ t k. let n = s.row e l in
          sum_equal (λ t. number X e t) (λ t. number Y e t) (tasks E) (λ t m. up e t)
          (le_of_eq
          (sym
          (sum_equal (λ e. sum (λ t. number X e t) (tasks E)) (λ e. sum (λ t. number Y e t) (tasks E)) (size E)
          (λ e m. sum_le (λ t. number X e t) (λ t. number Y e t) (tasks E) (λ t m. up e t)) h e l)))
          t (omega arith))

  -- a pass that changes something raises the sum
  pass_total : (X : Vectors) → Shaped (size E) (tasks E) X → same X (pass E X) ≡ false → total E X < total E (pass E X)
  pass_total X s q =
      cases (ltb (total E X) (total E (pass E X))) (λ h. ltb-true _ _ h)
      (λ h.
      let e = total_same X (pass E X) s (pass_shaped E X s) (pass_up E X s) (ltb-false _ _ h) in
      clash (subst (λ (Y : Vectors). same X Y ≡ true) e (same_refl X)) q)

  unsettled_total : (b : ℕ) → (run E b).settled ≡ false → b ≤ total E (run E b).vectors
  unsettled_total zero h = zero-le
  unsettled_total (suc b) h =
      run_next E (λ r. r.settled ≡ false → suc b ≤ total E r.vectors) b (λ q r. clash q r)
      (λ q r. let a = unsettled_total b q in let c = pass_total (run E b).vectors (run_shaped E b) r in omega arith) h

  -- N * N + 1 passes settle
  pub settles : (o : List ℕ) → Admissible E o → (b : ℕ) → size E * size E < b → (run E b).settled ≡ true
  settles o adm b h =
      cases (run E b).settled (λ q. q)
      (λ q. let a = unsettled_total b q in let c = total_bound o (run E b).vectors (run_safe E o adm b) in absurd (omega arith))

  -- a settled run's vectors are kept by a pass (for requests 4, 12 and 13)
  pub settled_quiet : (b : ℕ) → (run E b).settled ≡ true → pass E (run E b).vectors ≡ (run E b).vectors
  unfolding run
  settled_quiet zero h = clash h refl
  settled_quiet (suc b) h =
      run_next E (λ r. r.settled ≡ true → pass E r.vectors ≡ r.vectors) b (λ q r. settled_quiet b q)
      (λ q r. ap (pass E) (sym (same_eq (run E b).vectors (pass E (run E b).vectors) r))) h
