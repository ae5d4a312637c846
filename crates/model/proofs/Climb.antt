-- The vectors climb: neither a pass nor a larger budget lowers a number, and a settled run is that of every larger budget. What
-- holds at the start and is kept by a pass holds after any budget: one vector of T numbers for each event, and safety.
-- Assumes nothing.
use Prim.Native.Nat.{ℕ, zero, suc, ◌≤◌, ◌<◌, max, zero-le}
use mathlib.Core.Path.{◌≡◌, refl, sym, ap, subst, ◌∙◌}
use mathlib.Core.Bool.{true, false, cond}
use mathlib.Core.List.{List, [], ◌∷◌, Memᴰ}
use native.Mathlib.Nat.{le_refl, le_trans, le_of_eq, le-max_left}
use native.Mathlib.Decide.{le_ind}
use native.Mathlib.Omega.{arith}
use lib.Dec.{ltb, eqb}
use lib.ListN.{length, get_or, set, length-set, get_or-eq_default}
use lib.Seq.{get_or-set_same, get_or-set_other}
use Rattle.model.specs.Numbers.{largest, list_of}
use Rattle.model.specs.Recording.{Recording, size, task_of, tasks}
use Rattle.model.specs.Orders.{Admissible}
use Rattle.model.specs.Vectors.{position, Vectors, number, start}
use Rattle.model.specs.Passes.{sources, gathered, step_one, served, raised, pass_to, pass, same, further, run, Run}
use Rattle.model.proofs.Tests.{cases, ltb-true, ltb-false, eqb-true, eqb-false}
use Rattle.model.proofs.Least.{largest_has}
use Rattle.model.proofs.Lists.{list_of_at, list_of-length, number_set_same, number_set_other}
use Rattle.model.proofs.Sound.{Safe, start_length, start_safe, pass_safe}

-- one vector of T numbers for each of N events
pub record Shaped (N T : ℕ) (X : Vectors) : Type 0 where
  pub rows : length X ≡ N
  pub row : (e : ℕ) → e < N → length (get_or X e []) ≡ T

pub set_shaped : (N T : ℕ) (X : Vectors) (e : ℕ) (r : List ℕ) → e < N → length r ≡ T → Shaped N T X → Shaped N T (set X e r)
set_shaped N T X e r l n s =
    record {
      rows = length-set X e r ∙ s.rows;
      row = λ a k.
          cases (eqb a e)
          (λ t.
          subst (λ (x : ℕ). length (get_or (set X e r) x []) ≡ T) (sym (eqb-true a e t))
          (ap length (get_or-set_same X e r [] (let m = s.rows in omega arith)) ∙ n))
          (λ t. ap length (get_or-set_other X e a r [] (eqb-false a e t)) ∙ s.row a k);
    }

-- every number of Y is at least that of X
abbrev pub AtMost : Vectors → Vectors → Type 0
AtMost X Y = (e t : ℕ) → number X e t ≤ number Y e t

module _ (E : Recording) where
  abbrev Shape : Vectors → Type 0
  Shape X = Shaped (size E) (tasks E) X

  pub start_shaped : Shape (start E)
  unfolding start
  start_shaped =
      record {
        rows = start_length E;
        row = λ e l.
            ap length (list_of_at (λ e. list_of (λ t. cond (eqb t (task_of E e)) (position E.events e) 0) (tasks E)) [] (size E) e l)
            ∙ list_of-length (λ t. cond (eqb t (task_of E e)) (position E.events e) 0) 0 (tasks E);
      }

  pub gathered_length : (X : Vectors) (from : List ℕ) (e : ℕ) → length (gathered E X from e) ≡ (tasks E)
  unfolding gathered
  gathered_length X from e = list_of-length (λ t. largest (λ s. number X s t) (e ∷ from)) 0 (tasks E)

  raised_length : (X : Vectors) (e : ℕ) → length (raised E X e) ≡ (tasks E)
  unfolding raised
  raised_length X e =
      let W = step_one E X e in
      list_of-length (λ t. max (number W e t) (served E W e t)) 0 (tasks E)

  pub pass_to_shaped : (X : Vectors) (n : ℕ) → n ≤ size E → Shape X → Shape (pass_to E X n)
  unfolding pass_to
  pass_to_shaped X zero h s = s
  pass_to_shaped X (suc n) h s =
      set_shaped (size E) (tasks E) (pass_to E X n) n (raised E (pass_to E X n) n) h (raised_length (pass_to E X n) n) (pass_to_shaped X n (omega arith) s)

  pub pass_shaped : (X : Vectors) → Shape X → Shape (pass E X)
  unfolding pass
  pass_shaped X s = pass_to_shaped X (size E) (le_refl (size E)) s

  -- ---- a pass never lowers a number

  -- beyond the (tasks E) numbers there is nothing
  pub beyond : (X : Vectors) (e t : ℕ) → Shape X → e < size E → (tasks E) ≤ t → number X e t ≡ 0
  beyond X e t s l h = get_or-eq_default (get_or X e []) 0 (let r = s.row e l in omega arith)

  pub gathered_at : (X : Vectors) (from : List ℕ) (e t : ℕ) → t < (tasks E) → get_or (gathered E X from e) t 0 ≡ largest (λ s. number X s t) (e ∷ from)
  unfolding gathered
  gathered_at X from e t l = list_of_at (λ t. largest (λ s. number X s t) (e ∷ from)) 0 (tasks E) t l

  pub raised_at_lem : (X : Vectors) (e t : ℕ) → t < (tasks E)
      → get_or (raised E X e) t 0 ≡ max (number (step_one E X e) e t) (served E (step_one E X e) e t)
  unfolding raised
  raised_at_lem X e t l =
      list_of_at (λ t. max (number (step_one E X e) e t) (served E (step_one E X e) e t)) 0 (tasks E) t l

  -- a raised vector has at least the numbers of what e takes the largest of
  pub raised_from : (X : Vectors) (e t s : ℕ) → Shape X → e < size E → s < size E → Memᴰ s (e ∷ sources E.events e)
      → number X s t ≤ get_or (raised E X e) t 0
  unfolding step_one
  raised_from X e t s shape l k m =
      cases (ltb t (tasks E))
      (λ h.
      let inside = ltb-true t (tasks E) h in
      let r = shape.rows in
      le_trans (largest_has (λ s. number X s t) m)
      (le_trans (le_of_eq (sym (number_set_same X e t (gathered E X (sources E.events e) e) (omega arith) ∙ gathered_at X (sources E.events e) e t inside)))
      (le_trans (le-max_left _ _) (le_of_eq (sym (raised_at_lem X e t inside))))))
      (λ h. le_trans (le_of_eq (beyond X s t shape k (ltb-false t (tasks E) h))) zero-le)

  raised_up : (X : Vectors) (e t : ℕ) → Shape X → e < size E → number X e t ≤ get_or (raised E X e) t 0
  raised_up X e t s l = raised_from X e t e s l l (Memᴰ.head refl)

  set_up : (X : Vectors) (e : ℕ) (r : List ℕ) → e < length X → ((t : ℕ) → number X e t ≤ get_or r t 0) → AtMost X (set X e r)
  set_up X e r l h a t =
      cases (eqb a e)
      (λ q.
      subst (λ (x : ℕ). number X x t ≤ number (set X e r) x t) (sym (eqb-true a e q))
      (le_trans (h t) (le_of_eq (sym (number_set_same X e t r l)))))
      (λ q. le_of_eq (sym (number_set_other X e a t r (eqb-false a e q))))

  pub pass_to_up : (X : Vectors) (n : ℕ) → n ≤ size E → Shape X → AtMost X (pass_to E X n)
  unfolding pass_to
  pass_to_up X zero h s e t = le_refl (number X e t)
  pass_to_up X (suc n) h s e t =
      let W = pass_to E X n in
      let ws = pass_to_shaped X n (omega arith) s in
      le_trans (pass_to_up X n (omega arith) s e t)
      (set_up W n (raised E W n) (let r = ws.rows in omega arith) (λ t. raised_up W n t ws h) e t)

  pub pass_up : (X : Vectors) → Shape X → AtMost X (pass E X)
  unfolding pass
  pass_up X s = pass_to_up X (size E) (le_refl (size E)) s

  -- ---- runs

  pub run_suc : (b : ℕ) → run E (suc b) ≡ further E (run E b)
  unfolding run
  run_suc b = refl

  -- a settled run stays as it is
  pub further_settled : (r : Run) → r.settled ≡ true → further E r ≡ r
  unfolding further
  further_settled r h = rw h

  pub further_goes : (r : Run) → r.settled ≡ false
      → further E r ≡ record { passes = suc r.passes; settled = same r.vectors (pass E r.vectors); vectors = pass E r.vectors }
  unfolding further
  further_goes r h = rw h

  -- the next run: the same where it is settled, and else one pass more
  pub run_next : (P : Run → Type 0) (b : ℕ) → ((run E b).settled ≡ true → P (run E b))
      → ((run E b).settled ≡ false
      → P (record { passes = suc (run E b).passes; settled = same (run E b).vectors (pass E (run E b).vectors); vectors = pass E (run E b).vectors }))
      → P (run E (suc b))
  run_next P b f g =
      cases (run E b).settled (λ q. subst P (sym (run_suc b ∙ further_settled (run E b) q)) (f q))
      (λ q. subst P (sym (run_suc b ∙ further_goes (run E b) q)) (g q))

  -- what holds of the starting vectors and is kept by a pass holds after any budget
  pub run_with : (P : Vectors → Type 0) → P (start E) → ((X : Vectors) → P X → P (pass E X)) → (b : ℕ) → P (run E b).vectors
  unfolding run
  run_with P z h zero = z
  run_with P z h (suc b) = let p = run_with P z h b in run_next (λ r. P r.vectors) b (λ q. p) (λ q. h (run E b).vectors p)

  pub run_shaped : (b : ℕ) → Shape (run E b).vectors
  run_shaped b = run_with Shape start_shaped pass_shaped b

  pub run_safe : (o : List ℕ) → Admissible E o → (b : ℕ) → Safe E o (run E b).vectors
  run_safe o adm b =
      (run_with (λ X. Shape X × Safe E o X) (start_shaped, start_safe E o adm)
      (λ X p. (pass_shaped X p.0, pass_safe E o adm X p.0.rows p.1)) b).1

  pub settled_stays : (b d : ℕ) → b ≤ d → (run E b).settled ≡ true → run E d ≡ run E b
  settled_stays b d h q =
      le_ind (λ m. run E m ≡ run E b) refl (λ m l p. run_suc m ∙ ap (further E) p ∙ further_settled (run E b) q) d h

  -- a larger budget lowers no number
  pub budget_up : (b d : ℕ) → b ≤ d → AtMost (run E b).vectors (run E d).vectors
  budget_up b d h =
      le_ind (λ m. AtMost (run E b).vectors (run E m).vectors) (λ e t. le_refl (number (run E b).vectors e t))
      (λ m l p e t.
      le_trans (p e t)
      (run_next (λ r. number (run E m).vectors e t ≤ number r.vectors e t) m (λ q. le_refl (number (run E m).vectors e t))
      (λ q. pass_up (run E m).vectors (run_shaped m) e t)))
      d h
