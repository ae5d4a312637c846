-- What acceptance says of each record: its kind is known, its names are, and it obeys the rules. So much of each gives back
-- acceptance.
-- Assumes nothing.
use Prim.Native.Nat.{ℕ, zero, suc, ◌<◌}
use Rattle.std.specs.Prelude.{Ok}
use mathlib.Core.Path.{◌≡◌, refl, sym, subst}
use mathlib.Core.Bool.{true}
use native.Mathlib.Nat.{le_refl, not-suc-le-zero}
use native.Mathlib.Omega.{arith}
use lib.Dec.{ltb}
use lib.ListN.{take}
use Rattle.model.specs.Recording.{Recording, size, tasks, event, task_of, named, names_of, class_of, life_kept, wait_kept, flag_kept, obeys, record_check, first_fault, Accepted}
use Rattle.model.specs.Acceptable.{Kept}
use Rattle.model.proofs.Tests.{both, first, second, all_three, last_or_lower, ltb-true}
use Rattle.model.proofs.Checks.{unless_passed, then_passed}

module _ (E : Recording) where
  no_fault : (n : ℕ) → first_fault E n ≡ Ok tt → (e : ℕ) → e < n → record_check E.counts E.levels (take e E.events) (event E e) ≡ Ok tt
  unfolding first_fault
  no_fault zero h e l = absurd (not-suc-le-zero l)
  no_fault (suc n) h e l =
      let (earlier, here) = then_passed (first_fault E n) _ h in
      last_or_lower l (λ d. subst (λ (x : ℕ). record_check E.counts E.levels (take x E.events) (event E x) ≡ Ok tt) (sym d) here)
      (λ k. no_fault n earlier e k)

  module _ (acc : Accepted E) where
    -- each record keeps the rules
    pub kept_at : (e : ℕ) → e < size E → Kept E e
    unfolding Accepted record_check obeys
    kept_at e l =
        let (kind, a) = unless_passed _ _ _ (no_fault (size E) acc e l) in
        let (name, b) = unless_passed _ _ _ a in
        let (life, c) = unless_passed (life_kept (take e E.events) (event E e)) _ _ b in
        let (wait, d) = unless_passed (wait_kept E.levels (take e E.events) (event E e)) _ _ c in
        let (flag, _) = unless_passed (flag_kept E.levels (take e E.events) (event E e)) _ _ d in
        record { kind = kind; names = name; rules = both (both life wait) flag }

    pub accepted_obeys : (e : ℕ) → e < size E → obeys E.levels (take e E.events) (event E e) ≡ true
    accepted_obeys e l = (kept_at e l).rules

    -- its task is below T, and its object below the names of its class
    pub task_inside : (e : ℕ) → e < size E → task_of E e < tasks E
    unfolding named
    task_inside e l = ltb-true (task_of E e) (tasks E) (first (ltb (task_of E e) (tasks E)) _ (kept_at e l).names)

    pub object_inside : (e : ℕ) → e < size E → (event E e).object < names_of E.counts (class_of (event E e).kind)
    unfolding named
    object_inside e l = ltb-true _ _ (second (ltb (task_of E e) (tasks E)) _ (kept_at e l).names)

  -- ---- back to acceptance

  record_passes : (e : ℕ) → Kept E e → record_check E.counts E.levels (take e E.events) (event E e) ≡ Ok tt
  unfolding record_check obeys
  record_passes e k =
      let before = take e E.events in
      let v = event E e in
      let (life, wait, flag) = all_three (life_kept before v) (wait_kept E.levels before v) (flag_kept E.levels before v) k.rules in
      rw (k.kind, k.names, life, wait, flag)

  no_faults : (n : ℕ) → ((e : ℕ) → e < n → Kept E e) → first_fault E n ≡ Ok tt
  unfolding first_fault
  no_faults zero h = refl
  no_faults (suc n) h = rw (no_faults n (λ e l. h e (omega arith))) (record_passes n (h n (le_refl (suc n))))

  -- a recording whose records keep the rules is accepted
  pub kept_accepted : ((e : ℕ) → e < size E → Kept E e) → Accepted E
  unfolding Accepted
  kept_accepted h = no_faults (size E) h
