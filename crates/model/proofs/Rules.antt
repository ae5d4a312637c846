-- What the rules say of an admissible order: which events it must put before which.
-- Assumes nothing.
use Prim.Native.Nat.{ℕ, suc, ◌+◌, ◌≤◌, ◌<◌}
use mathlib.Core.Path.{◌≡◌, refl, sym, ap, subst, ◌∙◌}
use mathlib.Core.Bool.{Bool, true, not, ◌&&◌}
use mathlib.Core.List.{List, [], ◌∷◌}
use native.Mathlib.Omega.{arith}
use lib.Dec.{ltb, eqb}
use lib.ListN.{length, get_or, take}
use Rattle.model.specs.declared.Event.{Event}
use Rattle.model.specs.Numbers.{bit, tally, count}
use Rattle.model.specs.Recording.{Levels, start_of, post_of, event, of_task, is_on, is_signal, is_wait, is_fork, is_join, is_post, not_joined, fork_kept, join_kept, wait_kept, flag_kept, life_kept, obeys, Recording, size, task_of, kind_of, object_of, fork, join, wait, flag_wait}
use Rattle.model.specs.Orders.{place, Precedes, occurrences, rearranged, Obeying, Admissible}
use Rattle.model.proofs.Tests.{both, first, second, of-not, all_three, implied, tests, compared, eqb-true, eqb-false, eq-eqb, lt-ltb, ltb-true}
use Rattle.model.proofs.Counting.{count_map}
use Rattle.model.proofs.Sum.{tally_hit, tally_none}
use Rattle.model.proofs.Place.{take-map, at_map, place_lt, at_place, stands, count_take, place_inj, element}

-- ---- the parts of the rules

module _ (x : Levels) (before : List Event) (v : Event) (h : obeys x before v ≡ true) where
  parts : (life_kept before v ≡ true) × (wait_kept x before v ≡ true) × (flag_kept x before v ≡ true)
  unfolding obeys
  parts = all_three (life_kept before v) (wait_kept x before v) (flag_kept x before v) h

  life : (not_joined before v ≡ true) × (fork_kept before v ≡ true) × (join_kept before v ≡ true)
  unfolding life_kept
  life = all_three _ _ _ parts.0

  -- at a wait the start count and the signals before it outnumber the waits on its semaphore before it
  wait_part : eqb v.kind wait ≡ true → count (is_wait v.object) before < start_of x v.object + count (is_signal v.object) before
  unfolding wait_kept
  wait_part t = let more = implied parts.1 t in omega tests

  -- at a flag wait the posts before it are at least its flag's post count
  flag_part : eqb v.kind flag_wait ≡ true → post_of x v.object ≤ count (is_post v.object) before
  unfolding flag_kept
  flag_part t = let enough = implied parts.2 t in omega tests

pub kind_is : (k x : ℕ) (v : Event) → is_on k x v ≡ true → eqb v.kind k ≡ true
kind_is k x v t = first (eqb v.kind k) (eqb v.object x) t

pub object_is : (k x : ℕ) (v : Event) → is_on k x v ≡ true → v.object ≡ x
object_is k x v t = eqb-true v.object x (second (eqb v.kind k) (eqb v.object x) t)

-- ---- lists in which each event stands once

-- the order puts a before b, as a test
abbrev pub sooner : List ℕ → ℕ → ℕ → Bool
sooner o a b = ltb (place o a) (place o b)

-- the records that the order puts before e
abbrev pub earlier : Recording → List ℕ → ℕ → List Event
earlier E o e = take (place o e) (rearranged E o)

length-map : (E : Recording) (l : List ℕ) → length (rearranged E l) ≡ length l
length-map E [] = refl
length-map E (x ∷ l) = ap suc (length-map E l)

module _ (E : Recording) (o : List ℕ) (once : (e : ℕ) → occurrences e o ≡ bit (ltb e (size E))) where
  pub count_earlier : (q : Event → Bool) (e : ℕ) → count q (earlier E o e) ≡ tally (λ a. q (event E a) && sooner o a e) (size E)
  count_earlier q e =
      ap (count q) (take-map (event E) (place o e) o) ∙ count_map q (event E) (take (place o e) o)
      ∙ count_take (size E) o once (λ a. q (event E a)) (place o e)

  -- the records obey the rules where each event does after those that the order puts before it
  pub obeying_by : ((e : ℕ) → e < size E → obeys E.levels (earlier E o e) (event E e) ≡ true) → Obeying E.levels (rearranged E o)
  obeying_by h i l =
      let n = length-map E o in
      let k : i < length o = omega arith in
      let (inside, here) = element (size E) o once i k in
      subst (λ (v : Event). obeys E.levels (take i (rearranged E o)) v ≡ true) (sym (at_map (event E) i o 0 _ k))
      (subst (λ (j : ℕ). obeys E.levels (take j (rearranged E o)) (event E (get_or o i 0)) ≡ true) here (h (get_or o i 0) inside))

-- ---- an admissible order

module _ (E : Recording) (o : List ℕ) (adm : Admissible E o) where
  rule_at : (e : ℕ) → e < size E → obeys E.levels (earlier E o e) (event E e) ≡ true
  rule_at e l =
      let s = stands (size E) o adm.once e l in
      let k = place_lt e o (omega arith) in
      let n = length-map E o in
      subst (λ (v : Event). obeys E.levels (earlier E o e) v ≡ true)
      (at_map (event E) (place o e) o 0 _ k ∙ ap (event E) (at_place e o (omega arith)))
      (adm.rules (place o e) (omega arith))

  -- no event of which q holds stands before e, where a rule counts none
  nothing_before : {Y : Type 0} (q : Event → Bool) (e a : ℕ) → eqb (count q (earlier E o e)) 0 ≡ true → a < size E → q (event E a) ≡ true → Precedes o a e → Y
  nothing_before q e a z l t p =
      tally_none (λ a. q (event E a) && sooner o a e) (size E) a
      (sym (count_earlier E o adm.once q e) ∙ eqb-true (count q (earlier E o e)) 0 z) l (both t (lt-ltb _ _ p))

  -- of two events of which one may not stand before the other
  pub turned : (a b : ℕ) → a < size E → b < size E → ¬ (a ≡ b) → ¬ (Precedes o b a) → Precedes o a b
  turned a b k l d n =
      compared (place o a) (place o b) (λ h. h) (λ e. absurd (d (place_inj (size E) o adm.once a b k l e))) (λ h. absurd (n h))

  -- two events of which neither may stand before the other
  single : (a b : ℕ) → a < size E → b < size E → ¬ (Precedes o a b) → ¬ (Precedes o b a) → a ≡ b
  single a b k l n m =
      compared (place o a) (place o b) (λ h. absurd (n h)) (λ e. place_inj (size E) o adm.once a b k l e) (λ h. absurd (m h))

  -- a fork at f names another task, which no fork before it names and which has no event before it
  fork_rest : (f : ℕ) → f < size E → eqb (kind_of E f) fork ≡ true
      → (not (eqb (object_of E f) (task_of E f)) ≡ true)
      × (eqb (count (is_fork (object_of E f)) (earlier E o f)) 0 ≡ true)
      × (eqb (count (of_task (object_of E f)) (earlier E o f)) 0 ≡ true)
  fork_rest f l t = all_three _ _ _ (implied (life E.levels (earlier E o f) (event E f) (rule_at f l)).1 t)

  join_rest : (j : ℕ) → j < size E → eqb (kind_of E j) join ≡ true
      → (not (eqb (object_of E j) (task_of E j)) ≡ true)
      × (ltb 0 (count (is_fork (object_of E j)) (earlier E o j)) ≡ true)
      × (eqb (count (is_join (object_of E j)) (earlier E o j)) 0 ≡ true)
  join_rest j l t = all_three _ _ _ (implied (life E.levels (earlier E o j) (event E j) (rule_at j l)).2 t)

  pub fork_other : (f : ℕ) → f < size E → eqb (kind_of E f) fork ≡ true → ¬ (object_of E f ≡ task_of E f)
  fork_other f l t = eqb-false (object_of E f) (task_of E f) (of-not _ (fork_rest f l t).0)

  pub join_other : (j : ℕ) → j < size E → eqb (kind_of E j) join ≡ true → ¬ (object_of E j ≡ task_of E j)
  join_other j l t = eqb-false (object_of E j) (task_of E j) (of-not _ (join_rest j l t).0)

  -- a task's fork is before its events
  pub fork_first : (f e : ℕ) → f < size E → e < size E → is_fork (task_of E e) (event E f) ≡ true → Precedes o f e
  fork_first f e k l t =
      let kind = kind_is 3 (task_of E e) (event E f) t in
      let named = object_is 3 (task_of E e) (event E f) t in
      turned f e k l (λ q. fork_other f k kind (named ∙ ap (task_of E) (sym q)))
      (λ p. nothing_before (of_task (object_of E f)) f e (fork_rest f k kind).2 l (eq-eqb _ _ (sym named)) p)

  -- a task's events are before its join
  pub join_last : (j e : ℕ) → j < size E → e < size E → is_join (task_of E e) (event E j) ≡ true → Precedes o e j
  join_last j e k l t =
      let kind = kind_is 4 (task_of E e) (event E j) t in
      let named = object_is 4 (task_of E e) (event E j) t in
      turned e j l k (λ q. join_other j k kind (named ∙ ap (task_of E) q))
      (λ p. nothing_before (is_join (task_of E e)) e j (life E.levels (earlier E o e) (event E e) (rule_at e l)).0 k t p)

  -- a join's fork is before it
  pub join_forked : (j : ℕ) → j < size E → eqb (kind_of E j) join ≡ true → (f : ℕ) × (f < size E) × (is_fork (object_of E j) (event E f) ≡ true) × Precedes o f j
  join_forked j l t =
      let c = (join_rest j l t).1 in
      let s = count_earlier E o adm.once (is_fork (object_of E j)) j in
      let (f, k, h) = tally_hit (λ a. is_fork (object_of E j) (event E a) && sooner o a j) (size E) (omega tests) in
      (f, k, first (is_fork (object_of E j) (event E f)) (sooner o f j) h, ltb-true _ _ (second (is_fork (object_of E j) (event E f)) (sooner o f j) h))

  -- an object has one event of kind k, where the rules allow no second
  one_of : (k : ℕ) → ((g : ℕ) → g < size E → eqb (kind_of E g) k ≡ true → eqb (count (is_on k (object_of E g)) (earlier E o g)) 0 ≡ true)
      → (t f g : ℕ) → f < size E → g < size E → is_on k t (event E f) ≡ true → is_on k t (event E g) ≡ true → f ≡ g
  one_of k rule t f g i j p q = single f g i j (no_second f g i j p q) (no_second g f j i q p)
    where
      no_second : (f g : ℕ) → f < size E → g < size E → is_on k t (event E f) ≡ true → is_on k t (event E g) ≡ true → ¬ (Precedes o f g)
      no_second f g i j p q =
          nothing_before (is_on k (object_of E g)) g f (rule g j (kind_is k t (event E g) q)) i
          (subst (λ (x : ℕ). is_on k x (event E f) ≡ true) (sym (object_is k t (event E g) q)) p)

  -- a task has one fork and one join
  pub one_fork : (t f g : ℕ) → f < size E → g < size E → is_fork t (event E f) ≡ true → is_fork t (event E g) ≡ true → f ≡ g
  one_fork = one_of 3 (λ g l t. (fork_rest g l t).1)

  pub one_join : (t f g : ℕ) → f < size E → g < size E → is_join t (event E f) ≡ true → is_join t (event E g) ≡ true → f ≡ g
  one_join = one_of 4 (λ g l t. (join_rest g l t).2)

  -- before a wait the start count and the signals outnumber the waits on its semaphore
  pub wait_served : (e : ℕ) → e < size E → eqb (kind_of E e) wait ≡ true
      → tally (λ a. is_wait (object_of E e) (event E a) && sooner o a e) (size E)
      < start_of E.levels (object_of E e) + tally (λ a. is_signal (object_of E e) (event E a) && sooner o a e) (size E)
  wait_served e l t =
      let h = wait_part E.levels (earlier E o e) (event E e) (rule_at e l) t in
      let w = count_earlier E o adm.once (is_wait (object_of E e)) e in
      let s = count_earlier E o adm.once (is_signal (object_of E e)) e in
      omega arith

  -- before a flag wait the posts are at least its flag's post count
  pub flag_served : (e : ℕ) → e < size E → eqb (kind_of E e) flag_wait ≡ true
      → post_of E.levels (object_of E e) ≤ tally (λ a. is_post (object_of E e) (event E a) && sooner o a e) (size E)
  flag_served e l t =
      let h = flag_part E.levels (earlier E o e) (event E e) (rule_at e l) t in
      let p = count_earlier E o adm.once (is_post (object_of E e)) e in
      omega arith
