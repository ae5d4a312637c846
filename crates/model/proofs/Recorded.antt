-- The recorded run: its vectors as an equation, and that what they order is ordered all the way down.
-- Assumes nothing.
use Prim.Native.Nat.{ℕ, zero, suc, ◌+◌, ◌-◌, ◌≤◌, ◌<◌, max, zero-le}
use Rattle.std.specs.Prelude.{Some, None}
use mathlib.Core.Path.{◌≡◌, refl, sym, ap, ap₂, subst, ◌∙◌}
use mathlib.Core.Logic.{◌⊎◌, inl, inr}
use mathlib.Core.Bool.{Bool, true, false, cond, ◌&&◌}
use mathlib.Core.List.Memᴰ
use mathlib.Core.List.{[], ◌++◌, Memᴰ}
use native.Mathlib.Nat.{le_refl, le_trans, le_of_eq, not-suc-le-zero, le-max_left, le-max_right}
use native.Mathlib.Decide.{le_ind}
use native.Mathlib.Omega.{arith}
use lib.Dec.{leb, ltb, eqb}
use lib.ListN.{get_or, set, get_or-eq_default}
use Rattle.model.specs.Numbers.{tally, largest, nth, found}
use Rattle.model.specs.Recording.{start_of, post_of, event, of_task, is_signal, is_wait, is_post, Accepted, Recording, size, task_of, kind_of, object_of, tasks, wait, flag_wait}
use Rattle.model.specs.Orders.{Admissible, file_order}
use Rattle.model.specs.Vectors.{at_or_before, position, Vectors, number, start}
use Rattle.model.specs.Passes.{sources, gathered, events_on, signals_on}
use Rattle.model.specs.Recorded.{waits_before, match_where, matched, open_where, opened, causes, recorded_to, recorded}
use Rattle.model.proofs.Tests.{cases, both, first, second, tests, compared, ltb-true, ltb-false, le-ltb, eqb-true, eq-eqb, le-leb, leb-true, leb-false}
use Rattle.model.proofs.Sum.{tally_grow, tally_ext, tally_cut}
use Rattle.model.proofs.Least.{largest_has, largest_ext, largest_reached}
use Rattle.model.proofs.Lists.{number_set_same, number_set_other}
use Rattle.model.proofs.Positions.{start_at, position_pos, position_rises, position_grows}
use Rattle.model.proofs.Picked.{picked_mem, picked_in, nth_of, nth_found, first_picked}
use Rattle.model.proofs.Rules.{sooner, wait_served, flag_served}
use Rattle.model.proofs.Sources.{last_found, source_of, source_precedes, of_found, has_previous}
use Rattle.model.proofs.Accept.{task_inside}
use Rattle.model.proofs.FileOrder.{file_admissible, file_lower, file_test}
use Rattle.model.proofs.Climb.{Shaped, set_shaped, start_shaped, gathered_length, gathered_at}

-- ---- the matched signal

-- s is the k-th signal on the semaphore where e is the k-th wait after the first ones, as many as its start count
pub record Match (E : Recording) (e s : ℕ) : Type 0 where
  pub inside : s < size E
  pub signal : is_signal (object_of E e) (event E s) ≡ true
  pub rank : start_of E.levels (object_of E e) + tally (λ b. is_signal (object_of E e) (event E b)) s ≡ tally (λ w. is_wait (object_of E e) (event E w)) e

pub matched_wait : (E : Recording) (e s : ℕ) → matched E.levels E.events e ≡ Some s → (eqb (kind_of E e) wait ≡ true) × Match E e s
unfolding matched events_on
matched_wait E e s h = go (eqb (kind_of E e) wait) refl h
  where
    go : (b : Bool) → eqb (kind_of E e) wait ≡ b → match_where E.levels E.events e b ≡ Some s → (eqb (kind_of E e) wait ≡ true) × Match E e s
    go false q h = let z : ◌≡◌ {A = ℕ} 0 1 = cc in absurd (omega arith)
    go true q h = (q, later _ _ h refl refl)
      where
        waits : ℕ
        waits = waits_before E.events e

        first : ℕ
        first = start_of E.levels (object_of E e)

        later : (t : Bool) (k : ℕ) → cond t None (nth (signals_on E.events (object_of E e)) k) ≡ Some s
            → t ≡ ltb waits first → k ≡ waits - first → Match E e s
        later true k h t d = let z : ◌≡◌ {A = ℕ} 0 1 = cc in absurd (omega arith)
        later false k h t d =
            let (inside, signal, rank) = nth_of (λ b. is_signal (object_of E e) (event E b)) (size E) k s h in
            let late = ltb-false waits first (sym t) in
            record { inside = inside; signal = signal; rank = omega arith }

-- ---- the first posts

-- s is one of the first posts on the flag, as many as its post count
pub record Opens (E : Recording) (e s : ℕ) : Type 0 where
  pub inside : s < size E
  pub post : is_post (object_of E e) (event E s) ≡ true
  pub rank : tally (λ b. is_post (object_of E e) (event E b)) s < post_of E.levels (object_of E e)

opened_flag : (E : Recording) (e s : ℕ) → Memᴰ s (opened E.levels E.events e) → (eqb (kind_of E e) flag_wait ≡ true) × Opens E e s
unfolding opened events_on
opened_flag E e s h = go (eqb (kind_of E e) flag_wait) refl h
  where
    post : ℕ → Bool
    post b = is_post (object_of E e) (event E b)

    go : (b : Bool) → eqb (kind_of E e) flag_wait ≡ b → Memᴰ s (open_where E.levels E.events e b) → (eqb (kind_of E e) flag_wait ≡ true) × Opens E e s
    go false q h = absurd (Memᴰ.not-nil h)
    go true q h =
        let (l, t) = picked_mem _ s (size E) (rw first_picked at h) in
        let few = second (post s) _ t in
        (q, record { inside = l; post = first (post s) _ t; rank = omega tests })

pub opened_has : (E : Recording) (e s : ℕ) → eqb (kind_of E e) flag_wait ≡ true → Opens E e s → Memᴰ s (opened E.levels E.events e)
unfolding opened events_on
opened_has E e s q h =
    let few = h.rank in
    rw (q, first_picked) (picked_in _ s (size E) h.inside (both h.post (omega tests)))

-- what has fewer of a kind before it than e is before e
rank_lower : (p : ℕ → Bool) (e s : ℕ) → tally p s < tally p e → s < e
rank_lower p e s h =
    cases (ltb s e) (λ t. ltb-true s e t) (λ t. let g = tally_grow p e s (ltb-false s e t) in absurd (omega arith))

module _ (E : Recording) (acc : Accepted E) where
  file : Admissible E (file_order E)
  file = file_admissible E acc

  -- what the file's order puts before e
  before : (e : ℕ) → e < size E → (p : ℕ → Bool) → tally (λ a. p a && sooner (file_order E) a e) (size E) ≡ tally p e
  before e l p =
      tally_ext (λ a. p a && sooner (file_order E) a e) (λ a. p a && ltb a e) (size E) (λ a k. ap (λ (b : Bool). p a && b) (file_test E a e k l))
      ∙ tally_cut p e (size E) (omega arith)

  wait_before_lem : (e : ℕ) → e < size E → eqb (kind_of E e) wait ≡ true
      → tally (λ w. is_wait (object_of E e) (event E w)) e < start_of E.levels (object_of E e) + tally (λ b. is_signal (object_of E e) (event E b)) e
  wait_before_lem e l q =
      let a = wait_served E (file_order E) file e l q in
      let w = before e l (λ w. is_wait (object_of E e) (event E w)) in
      let s = before e l (λ b. is_signal (object_of E e) (event E b)) in omega arith

  pub flag_before : (e : ℕ) → e < size E → eqb (kind_of E e) flag_wait ≡ true
      → post_of E.levels (object_of E e) ≤ tally (λ b. is_post (object_of E e) (event E b)) e
  flag_before e l q =
      let a = flag_served E (file_order E) file e l q in
      let p = before e l (λ b. is_post (object_of E e) (event E b)) in omega arith

  matched_lower : (e s : ℕ) → e < size E → matched E.levels E.events e ≡ Some s → s < e
  matched_lower e s l h =
      let (q, m) = matched_wait E e s h in
      let r = m.rank in
      let b = wait_before_lem e l q in rank_lower (λ b. is_signal (object_of E e) (event E b)) e s (omega arith)

  opened_lower : (e s : ℕ) → e < size E → Memᴰ s (opened E.levels E.events e) → s < e
  opened_lower e s l h =
      let (q, m) = opened_flag E e s h in
      let r = m.rank in
      let b = flag_before e l q in rank_lower (λ b. is_post (object_of E e) (event E b)) e s (omega arith)

  -- the waits after the first ones are matched
  pub matched_found : (e : ℕ) → e < size E → eqb (kind_of E e) wait ≡ true → start_of E.levels (object_of E e) ≤ waits_before E.events e
      → (s : ℕ) × (matched E.levels E.events e ≡ Some s)
  unfolding matched events_on
  matched_found e l q late =
      let signals = tally_grow (λ b. is_signal (object_of E e) (event E b)) e (size E) (omega arith) in
      let enough = wait_before_lem e l q in
      let (s, h) = nth_found (λ b. is_signal (object_of E e) (event E b)) (size E) (waits_before E.events e - start_of E.levels (object_of E e)) (omega arith) in
      (s, rw (q, le-ltb (waits_before E.events e) (start_of E.levels (object_of E e)) late) h)

  -- what an event follows was recorded before it
  pub causes_lower : (e s : ℕ) → e < size E → Memᴰ s (causes E.levels E.events e) → s < e
  causes_lower e s l h = go (Memᴰ.append_cases (sources E.events e) h)
    where
      served : Memᴰ s (found (matched E.levels E.events e)) ⊎ Memᴰ s (opened E.levels E.events e) → s < e
      served (inl k) = matched_lower e s l (of_found (matched E.levels E.events e) k)
      served (inr k) = opened_lower e s l k

      go : Memᴰ s (sources E.events e)
          ⊎ Memᴰ s (found (matched E.levels E.events e) ++ opened E.levels E.events e) → s < e
      go (inl k) = let (a, b) = source_precedes E (file_order E) file e s l (source_of E e s k) in file_lower E s e a l b
      go (inr k) = served (Memᴰ.append_cases (found (matched E.levels E.events e)) k)

-- ---- the recorded vectors

module _ (E : Recording) where
  recorded_to_shaped : (n : ℕ) → n ≤ size E → Shaped (size E) (tasks E) (recorded_to E n)
  unfolding recorded_to
  recorded_to_shaped zero h = start_shaped E
  recorded_to_shaped (suc n) h =
      set_shaped (size E) (tasks E) (recorded_to E n) n (gathered E (recorded_to E n) (causes E.levels E.events n) n) h
      (gathered_length E (recorded_to E n) (causes E.levels E.events n) n) (recorded_to_shaped n (omega arith))

  recorded_suc : (n : ℕ) → recorded_to E (suc n) ≡ set (recorded_to E n) n (gathered E (recorded_to E n) (causes E.levels E.events n) n)
  unfolding recorded_to
  recorded_suc n = refl

  step_other : (n e t : ℕ) → ¬ (e ≡ n) → number (recorded_to E (suc n)) e t ≡ number (recorded_to E n) e t
  step_other n e t d =
      ap (λ (X : Vectors). number X e t) (recorded_suc n)
      ∙ number_set_other (recorded_to E n) n e t (gathered E (recorded_to E n) (causes E.levels E.events n) n) d

  -- a vector is made once
  made_once : (n m e t : ℕ) → e < n → n ≤ m → number (recorded_to E m) e t ≡ number (recorded_to E n) e t
  made_once n m e t l h =
      le_ind (λ m. number (recorded_to E m) e t ≡ number (recorded_to E n) e t) refl (λ m k p. step_other m e t (λ q. omega arith) ∙ p) m h

  not_yet : (n e t : ℕ) → n ≤ e → number (recorded_to E n) e t ≡ number (start E) e t
  unfolding recorded_to
  not_yet zero e t h = refl
  not_yet (suc n) e t h = step_other n e t (λ q. omega arith) ∙ not_yet n e t (omega arith)

  pub recorded_shaped : Shaped (size E) (tasks E) (recorded E)
  unfolding recorded
  recorded_shaped = recorded_to_shaped (size E) (le_refl (size E))

-- the event before e in its task is one that e follows, at or after any other before e
previous_cause : (E : Recording) (a e : ℕ) → a < e → task_of E a ≡ task_of E e → (p : ℕ) × (a ≤ p) × (p < e) × (task_of E p ≡ task_of E e) × Memᴰ p (causes E.levels E.events e)
previous_cause E a e l t =
    let (p, h, r, k) = last_found (λ a. of_task (task_of E e) (event E a)) e a l (eq-eqb _ _ t) in
    (p, k, r.inside, eqb-true (task_of E p) (task_of E e) r.passes, Memᴰ.append_left (found (matched E.levels E.events e) ++ opened E.levels E.events e) (has_previous E e p h))

-- ---- what is ordered is ordered all the way down

module _ (E : Recording) (acc : Accepted E) where
  abbrev R : Vectors
  R = recorded E

  -- the recorded vector of e: the largest of its start and of the recorded vectors that it follows
  recorded_at : (e t : ℕ) → e < size E → t < (tasks E) → number R e t ≡ max (number (start E) e t) (largest (λ s. number R s t) (causes E.levels E.events e))
  unfolding recorded largest
  recorded_at e t l k =
      made_once E (suc e) (size E) e t (le_refl (suc e)) l
      ∙ ap (λ (X : Vectors). number X e t) (recorded_suc E e)
      ∙ number_set_same (recorded_to E e) e t (gathered E (recorded_to E e) (causes E.levels E.events e) e) (let r = (recorded_to_shaped E e (omega arith)).rows in omega arith)
      ∙ gathered_at E (recorded_to E e) (causes E.levels E.events e) e t k
      ∙ ap₂ (λ (a b : ℕ). max a b) (not_yet E e e t (le_refl e))
      (largest_ext (λ s. number (recorded_to E e) s t) (λ s. number (recorded_to E (size E)) s t) (causes E.levels E.events e)
      (λ s h. sym (made_once E e (size E) s t (causes_lower E acc e s l h) (omega arith))))

  -- each event has its own position
  own_number : (e : ℕ) → e < size E → position E.events e ≤ number R e (task_of E e)
  own_number e l =
      let k = task_inside E acc e l in
      let s : number (start E) e (task_of E e) ≡ position E.events e = start_at E e (task_of E e) l k ∙ rw (eq-eqb (task_of E e) (task_of E e) refl) in
      le_trans (le_of_eq (sym s)) (le_trans (le-max_left _ _) (le_of_eq (sym (recorded_at e (task_of E e) l k))))

  -- an event has at least the numbers of what it follows
  cause_below : (e s t : ℕ) → e < size E → Memᴰ s (causes E.levels E.events e) → number R s t ≤ number R e t
  cause_below e s t l h =
      cases (ltb t (tasks E))
      (λ k.
      le_trans (largest_has (λ s. number R s t) h) (le_trans (le-max_right _ _) (le_of_eq (sym (recorded_at e t l (ltb-true t (tasks E) k))))))
      (λ k.
      let m = causes_lower E acc e s l h in
      let r = (recorded_shaped E).row s (omega arith) in
      le_trans (le_of_eq (get_or-eq_default (get_or R s []) 0 (let past : (tasks E) ≤ t = omega tests in omega arith))) zero-le)

  -- what e has reached it has with all its numbers
  abbrev Carried : ℕ → Type 0
  Carried e = (a t : ℕ) → a < size E → position E.events a ≤ number R e (task_of E a) → number R a t ≤ number R e t

  carry : (e : ℕ) → e < size E → ((s : ℕ) → s < e → Carried s) → Carried e
  carry e l ih a t k q =
      let inside = task_inside E acc a k in
      let pos = position_pos E.events a in
      let reached = subst (λ (v : ℕ). position E.events a ≤ v) (recorded_at e (task_of E a) l inside) q in
      cases (leb (position E.events a) (number (start E) e (task_of E a)))
      (λ u. own (subst (λ (v : ℕ). position E.events a ≤ v) (start_at E e (task_of E a) l inside) (leb-true _ _ u)))
      (λ u.
      let over = leb-false (position E.events a) (number (start E) e (task_of E a)) u in
      let (s, h, r) = largest_reached (λ s. number R s (task_of E a)) (position E.events a) (causes E.levels E.events e) pos (omega arith) in
      through s h r)
    where
      Goal : Type 0
      Goal = number R a t ≤ number R e t

      through : (s : ℕ) → Memᴰ s (causes E.levels E.events e) → position E.events a ≤ number R s (task_of E a) → Goal
      through s h p = le_trans (ih s (causes_lower E acc e s l h) a t k p) (cause_below e s t l h)

      -- an event of e's own task, by the event before e in it
      earlier : a < e → task_of E a ≡ task_of E e → Goal
      earlier m same =
          let (p, x, y, z, h) = previous_cause E a e m same in
          through p h
          (le_trans (position_grows E.events a p x (same ∙ sym z))
          (subst (λ (w : ℕ). position E.events p ≤ number R p w) (z ∙ sym same) (own_number p (omega arith))))

      own : position E.events a ≤ cond (eqb (task_of E a) (task_of E e)) (position E.events e) 0 → Goal
      own p =
          cases (eqb (task_of E a) (task_of E e))
          (λ u.
          let same = eqb-true (task_of E a) (task_of E e) u in
          let low : position E.events a ≤ position E.events e = rw u at p in
          compared a e (λ m. earlier m same) (λ d. le_of_eq (ap (λ (x : ℕ). number R x t) d))
          (λ m. let r = position_rises E.events e a m (sym same) in absurd (omega arith)))
          (λ u. let pos = position_pos E.events a in let low : position E.events a ≤ 0 = rw u at p in absurd (omega arith))

  carried_below : (n e : ℕ) → e < n → e < size E → Carried e
  carried_below zero e h l = absurd (not-suc-le-zero h)
  carried_below (suc n) e h l = carry e l (λ s m. carried_below n s (omega arith) (omega arith))

-- ---- the events at or before x

module _ (E : Recording) (acc : Accepted E) where
  pub up_self : (x : ℕ) → x < size E → at_or_before E.events (recorded E) x x ≡ true
  up_self x l = le-leb _ _ (own_number E acc x l)

  pub up_own : (x a b : ℕ) → a ≤ b → task_of E a ≡ task_of E b → at_or_before E.events (recorded E) b x ≡ true → at_or_before E.events (recorded E) a x ≡ true
  up_own x a b h t u =
      le-leb _ _ (le_trans (position_grows E.events a b h t) (subst (λ (w : ℕ). position E.events b ≤ number (recorded E) x w) (sym t) (leb-true _ _ u)))

  pub up_cause : (x a s : ℕ) → x < size E → a < size E → Memᴰ s (causes E.levels E.events a) → at_or_before E.events (recorded E) a x ≡ true → at_or_before E.events (recorded E) s x ≡ true
  up_cause x a s l k h u =
      let m = causes_lower E acc a s k h in
      le-leb _ _
      (le_trans (own_number E acc s (omega arith))
      (le_trans (cause_below E acc a s (task_of E s) k h) (carried_below E acc (suc x) x (le_refl (suc x)) l a (task_of E s) k (leb-true _ _ u))))
