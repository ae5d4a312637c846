-- Vectors of one recording stay below closed vectors of another with the same work: every event starts below its twin, raising is
-- monotone, and the twin's vector is one that raising leaves as it is. So settled vectors match.
-- Assumes nothing.
use Prim.Native.Nat.{ℕ, zero, suc, ◌≤◌, ◌<◌, max, zero-le}
use mathlib.Core.Path.{◌≡◌, sym, ap, ap₂, subst, subst₂, ◌∙◌}
use mathlib.Core.Bool.{true, cond}
use mathlib.Core.Logic.{◌⊎◌, inl, inr}
use mathlib.Core.List.Memᴰ
use mathlib.Core.List.{List, ◌∷◌, Memᴰ}
use native.Mathlib.Nat.{le_refl, le_trans, le_of_eq, le_antisymm}
use native.Mathlib.Omega.{arith}
use lib.Dec.{ltb, eqb}
use lib.ListN.{length, get_or, set}
use Rattle.model.specs.declared.Event.{Event}
use Rattle.model.specs.Numbers.{largest}
use Rattle.model.specs.Recording.{Recording, size, tasks, task_of, kind_of, fork, join, is_fork, Accepted}
use Rattle.model.specs.Vectors.{position, Vectors, number, start}
use Rattle.model.specs.Passes.{sources, gathered, step_one, served, raised, pass_to, pass, run}
use Rattle.model.specs.OneJob.{SameWork}
use Rattle.model.proofs.Tests.{cases, ltb-true, ltb-false, eqb-true, eqb-false}
use Rattle.model.proofs.Least.{max_with, largest_with}
use Rattle.model.proofs.Lists.{row_with, number_set_same, number_set_other}
use Rattle.model.proofs.Sources.{Source, source_of}
use Rattle.model.proofs.Positions.{start_at}
use Rattle.model.proofs.Sound.{pass_to-length}
use Rattle.model.proofs.Climb.{Shaped, start_shaped, pass_shaped, beyond, run_with, budget_up}
use Rattle.model.proofs.Twins.{twin_sym, twin_on, twin_of, twin_before}
use Rattle.model.proofs.Monotone.{Below, Twins, served_below}
use Rattle.model.proofs.Quiet.{Closed, settled_closed}

pub same_sym : (E F : Recording) → SameWork E F → SameWork F E
same_sym E F s =
    record {
      tasks = sym s.tasks;
      semaphores = sym s.semaphores;
      flags = sym s.flags;
      cells = sym s.cells;
      starts = λ n. sym (s.starts n);
      posts = λ n. sym (s.posts n);
      records = λ t. sym (s.records t);
    }

-- no number of X, for an event of E, is above that of Y for its twin of F
abbrev Lower : Recording → Recording → Vectors → Vectors → Type 0
Lower E F X Y = Below E.events F.events X Y

module _ (E F : Recording) (same : SameWork E F) where
  source_inside : (e s : ℕ) → e < size E → Source E e s → s < size E
  source_inside e s l (Source.before k q) = omega arith
  source_inside e s l (Source.forked k q) = k
  source_inside e s l (Source.join_fork j k q) = k
  source_inside e s l (Source.join_end j k q) = k

  join_twin : (e x : ℕ) → Twins E F e x → eqb (kind_of E e) join ≡ true → eqb (kind_of F x) join ≡ true
  join_twin e x w j = subst (λ (v : Event). eqb v.kind join ≡ true) w.same j

  -- the twin of a source is a source of the twin
  source_twin : (e s x y : ℕ) → Twins E F e x → Twins E F s y → Source E e s → Source F x y
  source_twin e s x y w v (Source.before k q) =
      Source.before (twin_before E.events F.events s e y x v w q k)
      (subst₂ (λ (u r : Event). u.task ≡ r.task) v.same w.same q)
  source_twin e s x y w v (Source.forked k q) =
      Source.forked v.right (subst₂ (λ (u r : Event). is_fork u.task r ≡ true) w.same v.same q)
  source_twin e s x y w v (Source.join_fork j k q) =
      Source.join_fork (join_twin e x w j) v.right (sym (twin_on E.events F.events (λ _. fork) e x s y w v) ∙ q)
  source_twin e s x y w v (Source.join_end j k q) =
      Source.join_end (join_twin e x w j) v.right (subst₂ (λ (u r : Event). u.task ≡ r.object) v.same w.same q)

  module _ (Y : Vectors) (closed : Closed F Y) where
    -- one vector set
    set_below : (X : Vectors) (e : ℕ) (r : List ℕ) → e < length X → ((x t : ℕ) → Twins E F e x → get_or r t 0 ≤ number Y x t)
        → Lower E F X Y → Lower E F (set X e r) Y
    set_below X e r l h below a x t w =
        cases (eqb a e)
        (λ q. let d = eqb-true a e q in
        subst (λ (c : ℕ). number (set X e r) c t ≤ number Y x t) (sym d)
        (le_trans (le_of_eq (number_set_same X e t r l)) (h x t (subst (λ (c : ℕ). Twins E F c x) d w))))
        (λ q. le_trans (le_of_eq (number_set_other X e a t r (eqb-false a e q))) (below a x t w))

    -- step 1
    gathered_below : (X : Vectors) → Lower E F X Y → (e x t : ℕ) → Twins E F e x
        → get_or (gathered E X (sources E.events e) e) t 0 ≤ number Y x t
    unfolding gathered
    gathered_below X below e x t w =
        let from = e ∷ sources E.events e in
        row_with (λ v. v ≤ number Y x t) (λ t. largest (λ s. number X s t) from) (tasks E) t zero-le
        (λ m. largest_with (λ v. v ≤ number Y x t) (λ s. number X s t) from zero-le (λ s k. each s (Memᴰ.cases_cons k)))
      where
        each : (s : ℕ) → (s ≡ e) ⊎ Memᴰ s (sources E.events e) → number X s t ≤ number Y x t
        each s (inl q) = le_trans (le_of_eq (ap (λ (c : ℕ). number X c t) q)) (below e x t w)
        each s (inr k) =
            let h = source_of E e s k in
            let (y, v) = twin_of E.events F.events same.records s (source_inside e s w.left h) in
            le_trans (below s y t v) (closed.from x y t w.right (source_twin e s x y w v h))

    step_below : (X : Vectors) → length X ≡ size E → Lower E F X Y → (e : ℕ) → e < size E → Lower E F (step_one E X e) Y
    unfolding step_one
    step_below X n below e l =
        set_below X e (gathered E X (sources E.events e) e) (omega arith) (λ x t w. gathered_below X below e x t w) below

    -- both steps
    raised_below : (X : Vectors) → length X ≡ size E → Lower E F X Y → (e x t : ℕ) → Twins E F e x → get_or (raised E X e) t 0 ≤ number Y x t
    unfolding raised
    raised_below X n below e x t w =
        let W = step_one E X e in
        let low = step_below X n below e w.left in
        let u = same.tasks in
        row_with (λ v. v ≤ number Y x t) (λ t. max (number W e t) (served E W e t)) (tasks E) t zero-le
        (λ m. max_with (λ v. v ≤ number Y x t) (number W e t) (served E W e t) (low e x t w)
        (le_trans (served_below E F same W Y low e x t w (closed.many x w.right)) (closed.served_by x t w.right (omega arith))))

    -- a pass
    pass_to_below : (X : Vectors) (n : ℕ) → n ≤ size E → length X ≡ size E → Lower E F X Y → Lower E F (pass_to E X n) Y
    unfolding pass_to
    pass_to_below X zero h k below = below
    pass_to_below X (suc n) h k below =
        let m = pass_to-length E X n ∙ k in
        let low = pass_to_below X n (omega arith) k below in
        set_below (pass_to E X n) n (raised E (pass_to E X n) n) (omega arith) (λ x t w. raised_below (pass_to E X n) m low n x t w) low

    pass_below : (X : Vectors) → length X ≡ size E → Lower E F X Y → Lower E F (pass E X) Y
    unfolding pass
    pass_below X k below = pass_to_below X (size E) (le_refl (size E)) k below

    -- a run
    run_below : Lower E F (start E) Y → (b : ℕ) → Lower E F (run E b).vectors Y
    run_below low b =
        (run_with E (λ X. Shaped (size E) (tasks E) X × Lower E F X Y) (start_shaped E, low)
        (λ X h. (pass_shaped E X h.0, pass_below X h.0.rows h.1)) b).1

  -- twins start alike
  start_below : Lower E F (start E) (start F)
  start_below a x t w =
      let u = same.tasks in
      cases (ltb t (tasks E))
      (λ h.
      let k = ltb-true t (tasks E) h in
      le_of_eq (start_at E a t w.left k ∙ alike ∙ sym (start_at F x t w.right (omega arith))))
      (λ h. le_trans (le_of_eq (beyond E (start E) a t (start_shaped E) w.left (ltb-false t (tasks E) h))) zero-le)
    where
      alike : cond (eqb t (task_of E a)) (position E.events a) 0 ≡ cond (eqb t (task_of F x)) (position F.events x) 0
      alike = ap₂ (λ (v : Event) (p : ℕ). cond (eqb t v.task) p 0) w.same w.place

  -- any run of E is below a settled run of F
  settled_below : Accepted F → (b d : ℕ) → (run F d).settled ≡ true → Lower E F (run E b).vectors (run F d).vectors
  unfolding run
  settled_below acc b d q =
      run_below (run F d).vectors (settled_closed F acc d q)
      (λ a x t w. le_trans (start_below a x t w) (budget_up F 0 d zero-le x t)) b

-- every number of X, for an event of E, is that of Y for its twin of F
abbrev pub Matching : Recording → Recording → Vectors → Vectors → Type 0
Matching E F X Y = (a x t : ℕ) → Twins E F a x → number X a t ≡ number Y x t

-- settled vectors match
pub settled_matching : (E F : Recording) → Accepted E → Accepted F → SameWork E F
    → (b d : ℕ) → (run E b).settled ≡ true → (run F d).settled ≡ true → Matching E F (run E b).vectors (run F d).vectors
settled_matching E F accE accF same b d q r a x t w =
    le_antisymm (settled_below E F same accF b d r a x t w)
    (settled_below F E (same_sym E F same) accE d b q x a t (twin_sym E.events F.events a x w))
