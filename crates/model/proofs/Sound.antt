-- Soundness: what the safe vectors order, every admissible order puts in that order, after any number of passes and inside a pass.
-- Assumes nothing.
use Prim.Native.Nat.{ℕ, zero, suc, ◌≤◌, ◌<◌, max, zero-le}
use mathlib.Core.Path.{◌≡◌, refl, sym, ap, subst, ◌∙◌}
use mathlib.Core.Bool.{Bool, true, false, cond, not, ◌&&◌}
use mathlib.Core.List.Memᴰ
use mathlib.Core.List.{List, [], ◌∷◌, Memᴰ}
use mathlib.Core.Logic.{◌⊎◌, inl, inr}
use native.Mathlib.Nat.{le_refl, le_trans, le_of_eq}
use native.Mathlib.Omega.{arith}
use lib.Dec.{leb, ltb, eqb}
use lib.ListN.{length, get_or, set, length-set}
use Rattle.model.specs.Numbers.{tally, count, largest, list_of, picked}
use Rattle.model.specs.Recording.{event, of_task, is_on, is_wait, Recording, size, task_of, kind_of, object_of, tasks, wait, flag_wait}
use Rattle.model.specs.Orders.{place, Precedes, Admissible}
use Rattle.model.specs.Vectors.{position, Vectors, number, ordered, start}
use Rattle.model.specs.Passes.{sources, gathered, step_one, events_on, k_of, post_where, k_where, needed, serving, candidates, kth_among, served, raised, pass_to, pass}
use Rattle.model.proofs.Tests.{cases, fails, of-not, to_not, both, first, second, and_alike, and_fails, tests, compared, leb-true, le-leb, lt-ltb, ltb-true, eqb-true, eqb-false, eq-eqb}
use Rattle.model.proofs.Sum.{tally_le, tally_ext, tally_lt, tally_cut}
use Rattle.model.proofs.Counting.{count_filter, count_le, count_length, filter_mem}
use Rattle.model.proofs.Least.{max_with, largest_with, kth_zero, kth_reached}
use Rattle.model.proofs.Picked.{picked_mem, count_picked}
use Rattle.model.proofs.Lists.{list_of_at, list_of-length, row_with, number_set_same, number_set_other}
use Rattle.model.proofs.Rules.{sooner, turned, wait_served, flag_served}
use Rattle.model.proofs.Sources.{source_of, source_precedes}

-- how many events of task t the order puts at or before e
abbrev pub seen : Recording → List ℕ → ℕ → ℕ → ℕ
seen E o e t = tally (λ a. of_task t (event E a) && leb (place o a) (place o e)) (size E)

-- no number promises more than the order keeps
abbrev pub Safe : Recording → List ℕ → Vectors → Type 0
Safe E o X = (e t : ℕ) → e < size E → number X e t ≤ seen E o e t

-- s is a signal on the semaphore of a wait e, a post on the flag of a flag wait e
abbrev serves : Recording → ℕ → ℕ → Bool
serves E e s = is_on (serving (kind_of E e)) (object_of E e) (event E s)

-- a candidate is an event of the file
candidate_inside : (E : Recording) (X : Vectors) (e s : ℕ) → Memᴰ s (candidates E X e) → s < size E
unfolding candidates events_on
candidate_inside E X e s m =
    (picked_mem (serves E e) s (size E) (filter_mem _ (events_on E.events (serving (kind_of E e)) (object_of E e)) m).0).0

-- ---- lengths: one vector for each event

pub start_length : (E : Recording) → length (start E) ≡ size E
unfolding start
start_length E = list_of-length (λ e. list_of (λ t. cond (eqb t (task_of E e)) (position E.events e) 0) (tasks E)) [] (size E)

pub pass_to-length : (E : Recording) (X : Vectors) (n : ℕ) → length (pass_to E X n) ≡ length X
unfolding pass_to
pass_to-length E X zero = refl
pass_to-length E X (suc n) = length-set (pass_to E X n) n (raised E (pass_to E X n) n) ∙ pass_to-length E X n

module _ (E : Recording) (o : List ℕ) (adm : Admissible E o) where
  seen_mono : (a b t : ℕ) → place o a ≤ place o b → seen E o a t ≤ seen E o b t
  seen_mono a b t h =
      tally_le (λ c. of_task t (event E c) && leb (place o c) (place o a)) (λ c. of_task t (event E c) && leb (place o c) (place o b)) (size E)
      (λ c l p. let q = second (of_task t (event E c)) (leb (place o c) (place o a)) p in both (first (of_task t (event E c)) _ p) (omega tests))

  -- the order keeps each event's position
  seen_own : (e : ℕ) → e < size E → seen E o e (task_of E e) ≡ position E.events e
  unfolding position
  seen_own e l =
      tally_ext (λ a. of_task (task_of E e) (event E a) && leb (place o a) (place o e)) (λ a. of_task (task_of E e) (event E a) && ltb a (suc e)) (size E)
      (λ a k. and_alike (of_task (task_of E e) (event E a)) (λ t. alike a k (eqb-true (task_of E a) (task_of E e) t)))
      ∙ tally_cut (λ a. of_task (task_of E e) (event E a)) (suc e) (size E) l
    where
      alike : (a : ℕ) → a < size E → task_of E a ≡ task_of E e → leb (place o a) (place o e) ≡ ltb a (suc e)
      alike a k t =
          compared a e
          (λ m. let n = adm.own a e m l t in both_true (omega tests) (omega tests))
          (λ s. both_true (le-leb _ _ (le_of_eq (ap (place o) s))) (omega tests))
          (λ m. let n = adm.own e a m k (sym t) in both_false (omega tests) (omega tests))
        where
          both_true : leb (place o a) (place o e) ≡ true → ltb a (suc e) ≡ true → leb (place o a) (place o e) ≡ ltb a (suc e)
          both_true p q = p ∙ sym q

          both_false : leb (place o a) (place o e) ≡ false → ltb a (suc e) ≡ false → leb (place o a) (place o e) ≡ ltb a (suc e)
          both_false p q = p ∙ sym q

  -- an event counts itself, and those before it do not
  seen_less : (a e : ℕ) → a < size E → Precedes o e a → seen E o e (task_of E a) < seen E o a (task_of E a)
  seen_less a e k p =
      tally_lt (λ c. own c && leb (place o c) (place o e)) (λ c. own c && leb (place o c) (place o a)) (size E) a
      (λ c m t. let q = second (own c) (leb (place o c) (place o e)) t in both (first (own c) _ t) (omega tests)) k
      (and_fails (own a) (omega tests)) (both (eq-eqb (task_of E a) (task_of E a) refl) (omega tests))
    where
      own : ℕ → Bool
      own c = of_task (task_of E a) (event E c)

  -- what safe vectors order, the order keeps
  pub ordered_precedes : (X : Vectors) → Safe E o X → (a e : ℕ) → a < size E → e < size E → ordered E.events X a e ≡ true → Precedes o a e
  unfolding ordered
  ordered_precedes X safe a e k l t =
      let apart = of-not (eqb a e) (first (not (eqb a e)) _ t) in
      let reached = leb-true (position E.events a) (number X e (task_of E a)) (second (not (eqb a e)) _ t) in
      let low = safe e (task_of E a) l in
      turned E o adm a e k l (eqb-false a e apart) (λ p. let own = seen_own a k in let less = seen_less a e k p in omega arith)

  pub start_safe : Safe E o (start E)
  unfolding start
  start_safe e t l =
      subst (λ (r : List ℕ). get_or r t 0 ≤ seen E o e t)
      (sym (list_of_at (λ e. list_of (λ t. cond (eqb t (task_of E e)) (position E.events e) 0) (tasks E)) [] (size E) e l))
      (row_with (λ v. v ≤ seen E o e t) (λ t. cond (eqb t (task_of E e)) (position E.events e) 0) (tasks E) t zero-le
      (λ m. cases (eqb t (task_of E e))
      (λ q. rw q (le_of_eq (sym (seen_own e l) ∙ ap (seen E o e) (sym (eqb-true t (task_of E e) q))))) (λ q. rw q zero-le)))

  set_safe : (X : Vectors) (e : ℕ) (r : List ℕ) → length X ≡ size E → Safe E o X → ((t : ℕ) → get_or r t 0 ≤ seen E o e t) → Safe E o (set X e r)
  set_safe X e r n safe h a t l =
      cases (eqb a e)
      (λ q.
      let s = eqb-true a e q in
      subst (λ (x : ℕ). number (set X e r) x t ≤ seen E o x t) (sym s) (le_trans (le_of_eq (number_set_same X e t r (omega arith))) (h t)))
      (λ q. le_trans (le_of_eq (number_set_other X e a t r (eqb-false a e q))) (safe a t l))

  -- step 1 is safe
  gathered_safe : (X : Vectors) (from : List ℕ) (e : ℕ) → e < size E → Safe E o X
      → ((s : ℕ) → Memᴰ s from → (s < size E) × Precedes o s e) → (t : ℕ) → get_or (gathered E X from e) t 0 ≤ seen E o e t
  unfolding gathered
  gathered_safe X from e l safe h t =
      row_with (λ v. v ≤ seen E o e t) (λ t. largest (λ s. number X s t) (e ∷ from)) (tasks E) t zero-le
      (λ m. largest_with (λ v. v ≤ seen E o e t) (λ s. number X s t) (e ∷ from) zero-le (λ s k. each s (Memᴰ.cases_cons k)))
    where
      each : (s : ℕ) → (s ≡ e) ⊎ Memᴰ s from → number X s t ≤ seen E o e t
      each s (inl q) = le_trans (le_of_eq (ap (λ (x : ℕ). number X x t) q)) (safe e t l)
      each s (inr k) = let (a, b) = h s k in le_trans (safe s t a) (seen_mono s e t (omega arith))

  -- such an event that the order puts before e
  abbrev sooner_serves : ℕ → ℕ → Bool
  sooner_serves e s = serves E e s && sooner o s e

  -- the order puts at least k of them before e
  needed_served : (X : Vectors) → Safe E o X → (e : ℕ) → e < size E → needed E X e ≤ tally (sooner_serves e) (size E)
  unfolding needed events_on
  needed_served X safe e l = go (eqb (kind_of E e) wait) refl
    where
      own : ℕ → Bool
      own a = is_wait (object_of E e) (event E a)

      -- those before e that serve an event of kind k
      before : ℕ → ℕ
      before k = tally (λ s. is_on (serving k) (object_of E e) (event E s) && sooner o s e) (size E)

      flag : (b : Bool) → eqb (kind_of E e) flag_wait ≡ b → post_where E e b ≤ before (kind_of E e)
      flag false q = zero-le
      flag true q =
          let enough = flag_served E o adm e l q in
          subst (λ (k : ℕ). post_where E e true ≤ before k) (sym (eqb-true (kind_of E e) flag_wait q)) (omega arith)

      go : (b : Bool) → eqb (kind_of E e) wait ≡ b → k_where E X e b ≤ before (kind_of E e)
      go false q = flag (eqb (kind_of E e) flag_wait) refl
      go true q =
          subst (λ (k : ℕ). k_of E X e (object_of E e) ≤ before k) (sym (eqb-true (kind_of E e) wait q))
          (let waits = count_picked own (λ w. ordered E.events X w e) (size E) in
          let fewer = tally_le (λ w. own w && ordered E.events X w e) (λ w. own w && sooner o w e) (size E)
          (λ a k u. both (first (own a) (ordered E.events X a e) u) (lt-ltb _ _ (ordered_precedes X safe a e k l (second (own a) (ordered E.events X a e) u)))) in
          let more = wait_served E o adm e l q in omega arith)

  -- and each of them is a candidate
  sooner_candidates : (X : Vectors) → Safe E o X → (e : ℕ) → e < size E → tally (sooner_serves e) (size E) ≤ count (sooner_serves e) (candidates E X e)
  unfolding candidates events_on
  sooner_candidates X safe e l =
      le_trans
      (tally_le (sooner_serves e) (λ s. serves E e s && (not (ordered E.events X e s) && sooner_serves e s)) (size E)
      (λ s k q. both (first (serves E e s) _ q) (both (possible s k q) q)))
      (le_of_eq
      (sym
      (count_filter (sooner_serves e) (λ s. not (ordered E.events X e s)) (picked (serves E e) (size E))
      ∙ count_picked (serves E e) (λ s. not (ordered E.events X e s) && sooner_serves e s) (size E))))
    where
      possible : (s : ℕ) → s < size E → sooner_serves e s ≡ true → not (ordered E.events X e s) ≡ true
      possible s k q =
          to_not
          (fails (ordered E.events X e s)
          (λ u.
          let a = ordered_precedes X safe e s l k u in
          let b = ltb-true (place o s) (place o e) (second (serves E e s) _ q) in omega arith))

  -- so in an accepted file fewer than k candidates never happens
  pub enough : (X : Vectors) → Safe E o X → (e : ℕ) → e < size E → needed E X e ≤ length (candidates E X e)
  enough X safe e l =
      let a = needed_served X safe e l in
      let b = sooner_candidates X safe e l in
      let c = count_length (sooner_serves e) (candidates E X e) in omega arith

  -- raising is safe for any k and any candidates of which the order puts at least k before e
  pub kth_safe : (X : Vectors) → Safe E o X → (e t k : ℕ) (l : List ℕ) → ((s : ℕ) → Memᴰ s l → s < size E)
      → k ≤ count (λ s. sooner o s e) l → kth_among X k l t ≤ seen E o e t
  unfolding kth_among
  kth_safe X safe e t zero l inside many = rw kth_zero zero-le
  kth_safe X safe e t (suc k) l inside many =
      let (c, m, u, v) = kth_reached (suc k) (λ s. number X s t) (λ s. sooner o s e) l (omega arith) many in
      let earlier = ltb-true (place o c) (place o e) u in
      le_trans v (le_trans (safe c t (inside c m)) (seen_mono c e t (omega arith)))

  -- step 2 is safe
  served_safe : (X : Vectors) → Safe E o X → (e t : ℕ) → e < size E → served E X e t ≤ seen E o e t
  unfolding served
  served_safe X safe e t l =
      kth_safe X safe e t (needed E X e) (candidates E X e) (λ s m. candidate_inside E X e s m)
      (let a = needed_served X safe e l in
      let b = sooner_candidates X safe e l in
      let c = count_le (sooner_serves e) (λ s. sooner o s e) (candidates E X e) (λ s q. second (serves E e s) _ q) in
      omega arith)

  pub step_one_lem : (X : Vectors) (e : ℕ) → e < size E → length X ≡ size E → Safe E o X → Safe E o (step_one E X e)
  unfolding step_one
  step_one_lem X e l n safe =
      set_safe X e (gathered E X (sources E.events e) e) n safe
      (gathered_safe X (sources E.events e) e l safe (λ s h. source_precedes E o adm e s l (source_of E e s h)))

  raised_safe : (X : Vectors) (e : ℕ) → e < size E → length X ≡ size E → Safe E o X → (t : ℕ) → get_or (raised E X e) t 0 ≤ seen E o e t
  unfolding raised
  raised_safe X e l n safe t =
      let W = step_one E X e in
      let s = step_one_lem X e l n safe in
      row_with (λ v. v ≤ seen E o e t) (λ t. max (number W e t) (served E W e t)) (tasks E) t zero-le
      (λ m. max_with (λ v. v ≤ seen E o e t) _ _ (s e t l) (served_safe W s e t l))

  -- inside a pass
  pub pass_to_safe : (X : Vectors) (n : ℕ) → n ≤ size E → length X ≡ size E → Safe E o X → Safe E o (pass_to E X n)
  unfolding pass_to
  pass_to_safe X zero h k safe = safe
  pass_to_safe X (suc n) h k safe =
      let s = pass_to_safe X n (omega arith) k safe in
      let m = pass_to-length E X n ∙ k in
      set_safe (pass_to E X n) n (raised E (pass_to E X n) n) m s (raised_safe (pass_to E X n) n h m s)

  pub pass_safe : (X : Vectors) → length X ≡ size E → Safe E o X → Safe E o (pass E X)
  unfolding pass
  pass_safe X k safe = pass_to_safe X (size E) (le_refl (size E)) k safe
