-- Before the first pass and after any whole pass vectors rise along each task: an event has at least the numbers of those
-- before it in its task. In the middle of a pass this need not hold. (For requests 4, 9 and 12.)
-- Assumes nothing.
use Prim.Native.Nat.{ℕ, zero, suc, ◌≤◌, ◌<◌, zero-le}
use Rattle.std.specs.Prelude.{Some}
use mathlib.Core.Path.{◌≡◌, refl, sym, ap, ◌∙◌}
use mathlib.Core.Bool.{cond}
use mathlib.Core.List.Memᴰ
use native.Mathlib.Nat.{le_refl, le_trans, le_of_eq, not-suc-le-zero}
use native.Mathlib.Decide.{le_ind}
use native.Mathlib.Omega.{arith}
use lib.Dec.{ltb, eqb}
use Rattle.model.specs.Recording.{Recording, size, tasks, event, task_of, of_task}
use Rattle.model.specs.Vectors.{Vectors, number, start, position}
use Rattle.model.specs.Passes.{previous, raised, pass_to, pass, safe_vectors}
use Rattle.model.proofs.Tests.{cases, compared, eqb-true, eq-eqb, ltb-true, ltb-false}
use Rattle.model.proofs.Lists.{number_set_same, number_set_other}
use Rattle.model.proofs.Sources.{last_found, last_some, has_previous}
use Rattle.model.proofs.Climb.{Shaped, start_shaped, pass_shaped, pass_to_shaped, beyond, raised_from, run_with}
use Rattle.model.proofs.Positions.{start_at, position_rises}

-- an event has at least the numbers of those before it in its task
abbrev pub Rising : Recording → Vectors → Type 0
Rising E X = (a e t : ℕ) → a < e → e < size E → task_of E a ≡ task_of E e → number X a t ≤ number X e t

-- it is enough that it has those of the event before it, which leads back to the others
rising_by : (E : Recording) (X : Vectors) → ((p e t : ℕ) → e < size E → previous E.events e ≡ Some p → number X p t ≤ number X e t)
    → (n a e t : ℕ) → e < n → a < e → e < size E → task_of E a ≡ task_of E e → number X a t ≤ number X e t
rising_by E X step zero a e t h k l q = absurd (not-suc-le-zero h)
rising_by E X step (suc n) a e t h k l q =
    let (p, f, r, m) = last_found (λ a. of_task (task_of E e) (event E a)) e a k (eq-eqb _ _ q) in
    let inside = r.inside in
    let last = step p e t l f in
    compared a p
    (λ u. le_trans (rising_by E X step n a p t (omega arith) u (omega arith) (q ∙ sym (eqb-true (task_of E p) (task_of E e) r.passes))) last)
    (λ u. le_trans (le_of_eq (ap (λ (x : ℕ). number X x t) u)) last) (λ u. absurd (omega arith))

start_rises : (E : Recording) → Rising E (start E)
start_rises E a e t k l q =
    cases (ltb t (tasks E))
    (λ h.
    let inside = ltb-true t (tasks E) h in
    let x = start_at E a t (omega arith) inside in
    let y = start_at E e t l inside in
    let p = position_rises E.events a e k q in
    cases (eqb t (task_of E e))
    (λ u.
    let v : cond (eqb t (task_of E a)) (position E.events a) 0 ≡ position E.events a = rw (q, u) in
    let w : cond (eqb t (task_of E e)) (position E.events e) 0 ≡ position E.events e = rw u in omega arith)
    (λ u. let v : cond (eqb t (task_of E a)) (position E.events a) 0 ≡ 0 = rw (q, u) in omega arith))
    (λ h. le_trans (le_of_eq (beyond E (start E) a t (start_shaped E) (omega arith) (ltb-false t (tasks E) h))) zero-le)

module _ (E : Recording) (X : Vectors) (shape : Shaped (size E) (tasks E) X) where
  -- in a pass only an event's own turn changes its vector
  turn_other : (n e t : ℕ) → ¬ (e ≡ n) → number (pass_to E X (suc n)) e t ≡ number (pass_to E X n) e t
  unfolding pass_to
  turn_other n e t d = number_set_other (pass_to E X n) n e t (raised E (pass_to E X n) n) d

  stays_below : (n e t : ℕ) → e < n → n ≤ size E → number (pass E X) e t ≡ number (pass_to E X n) e t
  unfolding pass
  stays_below n e t k h =
      le_ind (λ m. number (pass_to E X m) e t ≡ number (pass_to E X n) e t) refl (λ m l p. turn_other m e t (λ q. omega arith) ∙ p) (size E) h

  -- at its turn an event takes at least the numbers of the event before it, whose turn is over
  turn_takes : (p e t : ℕ) → e < size E → previous E.events e ≡ Some p → number (pass E X) p t ≤ number (pass E X) e t
  unfolding pass_to
  turn_takes p e t l q =
      let Y = pass_to E X e in
      let ys = pass_to_shaped E X e (omega arith) shape in
      let rows = ys.rows in
      let inside = (last_some (λ a. of_task (task_of E e) (event E a)) e p q).inside in
      le_trans (le_of_eq (stays_below e p t inside (omega arith)))
      (le_trans (raised_from E Y e t p ys l (omega arith) (Memᴰ.tail (has_previous E e p q)))
      (le_of_eq (sym (stays_below (suc e) e t (le_refl (suc e)) l ∙ number_set_same Y e t (raised E Y e) (omega arith)))))

-- after a whole pass, from any vectors
pub pass_rises : (E : Recording) (X : Vectors) → Shaped (size E) (tasks E) X → Rising E (pass E X)
pass_rises E X shape a e t k l q = rising_by E (pass E X) (turn_takes E X shape) (suc e) a e t (le_refl (suc e)) k l q

-- after any run
pub run_rises : (E : Recording) (b : ℕ) → Rising E (safe_vectors E b)
run_rises E b =
    (run_with E (λ X. Shaped (size E) (tasks E) X × Rising E X) (start_shaped E, start_rises E)
    (λ X h. (pass_shaped E X h.0, pass_rises E X h.0)) b).1
