-- The events that the recorded vectors put at or before x, first, and then the others: an admissible order.
-- Assumes nothing.
use Prim.Native.Nat.{ℕ, zero, suc, ◌+◌, ◌≤◌, ◌<◌}
use Rattle.std.specs.Prelude.{Option, Some, None}
use mathlib.Core.Path.{◌≡◌, refl, sym, ap, subst, ◌∙◌}
use mathlib.Core.Bool.{Bool, true, false, not, ◌&&◌}
use mathlib.Core.List.Memᴰ
use mathlib.Core.List.{List, ◌++◌, Memᴰ}
use native.Mathlib.Nat.{le_refl, not-suc-le-zero}
use native.Mathlib.Omega.{arith}
use lib.Dec.{leb, ltb, eqb}
use Rattle.model.specs.declared.Event.{Event}
use Rattle.model.specs.Numbers.{bit, tally, count, picked, found}
use Rattle.model.specs.Recording.{start_of, post_of, event, of_task, is_signal, is_wait, is_fork, is_join, is_post, not_joined, fork_kept, join_kept, wait_kept, flag_kept, life_kept, obeys, Accepted, Recording, size, task_of, kind_of, object_of, fork, join, wait, flag_wait}
use Rattle.model.specs.Orders.{place, Precedes, occurrences, Admissible, file_order}
use Rattle.model.specs.Vectors.{at_or_before, ordered}
use Rattle.model.specs.Passes.{previous, sources}
use Rattle.model.specs.Recorded.{matched, causes, recorded}
use Rattle.model.specs.Reversed.{bring_forward}
use Rattle.model.proofs.Tests.{of-not, to_not, both, first, second, and_fails, and_false, implies_by, tests, ltb-true, lt-ltb, eqb-true, eq-eqb, ne_eqb, leb-true, all_three, ltb-false}
use Rattle.model.proofs.Sum.{tally_zero, tally_has, tally_lt, tally_inject, rank_same, tally_le, tally_grow, tally_split, tally_first}
use Rattle.model.proofs.Picked.{parted_once, parted_first, parted_rises}
use Rattle.model.proofs.Rules.{sooner, earlier, count_earlier, obeying_by, kind_is, object_is, fork_other, join_other, fork_first, join_last, join_forked, one_fork, one_join}
use Rattle.model.proofs.Sources.{last_some, last_found, in_found, has_previous, has_fork, has_join_fork, has_join_end, fork_found}
use Rattle.model.proofs.FileOrder.{file_admissible, file_lower}
use Rattle.model.proofs.Recorded.{matched_wait, matched_found, opened_has, flag_before, causes_lower, up_self, up_own, up_cause}

module _ (E : Recording) (acc : Accepted E) (x : ℕ) (inside : x < size E) where
  abbrev up : ℕ → Bool
  up a = at_or_before E.events (recorded E) a x

  abbrev o : List ℕ
  o = picked up (size E) ++ picked (λ a. not (up a)) (size E)

  abbrev f₀ : List ℕ
  f₀ = file_order E

  file : Admissible E f₀
  file = file_admissible E acc

  once : (e : ℕ) → occurrences e o ≡ bit (ltb e (size E))
  once e = parted_once up (size E) e

  -- an order of the file is kept where it does not bring the later event forward alone
  keep : (a b : ℕ) → a < b → b < size E → (up b ≡ true → up a ≡ true) → Precedes o a b
  keep a b k l h = parted_rises up (size E) a b k l h

  -- an event is brought forward with its sources
  brings : (a s : ℕ) → a < size E → Memᴰ s (sources E.events a) → up a ≡ true → up s ≡ true
  brings a s k h u = up_cause E acc x a s inside k (Memᴰ.append_left _ h) u

  -- ---- the order of events that the rules ask for

  join_brings : (j e : ℕ) → j < size E → e < size E → is_join (task_of E e) (event E j) ≡ true → up j ≡ true → up e ≡ true
  join_brings j e k l t u =
      let kind = kind_is 4 (task_of E e) (event E j) t in
      let named = object_is 4 (task_of E e) (event E j) t in
      let (z, q, r, h) = last_found (λ a. of_task (object_of E j) (event E a)) (size E) e l (eq-eqb _ _ (sym named)) in
      up_own E acc x e z h (sym named ∙ sym (eqb-true (task_of E z) (object_of E j) r.passes)) (brings j z k (has_join_end E j z kind q) u)

  -- from an event back to its task's first one, and to the fork
  fork_brings : (n f e : ℕ) → e < n → f < size E → e < size E → is_fork (task_of E e) (event E f) ≡ true → up e ≡ true → up f ≡ true
  fork_brings zero f e m k l t u = absurd (not-suc-le-zero m)
  fork_brings (suc n) f e m k l t u = go (previous E.events e) refl (λ p i j s v. fork_brings n f p i k j s v)
    where
      go : (w : Option ℕ) → previous E.events e ≡ w
          → ((p : ℕ) → p < n → p < size E → is_fork (task_of E p) (event E f) ≡ true → up p ≡ true → up f ≡ true) → up f ≡ true
      go None q ih = brings e f l (has_fork E e f q (fork_found E f₀ file (task_of E e) f k t)) u
      go (Some p) q ih =
          let r = last_some (λ a. of_task (task_of E e) (event E a)) e p q in
          let lower = r.inside in
          let same = eqb-true (task_of E p) (task_of E e) r.passes in
          ih p (omega arith) (omega arith) (subst (λ (y : ℕ). is_fork y (event E f) ≡ true) (sym same) t) (brings e p l (has_previous E e p q) u)

  keeps_fork : (f e : ℕ) → f < size E → e < size E → is_fork (task_of E e) (event E f) ≡ true → Precedes o f e
  keeps_fork f e k l t = keep f e (file_lower E f e k l (fork_first E f₀ file f e k l t)) l (fork_brings (suc e) f e (le_refl (suc e)) k l t)

  keeps_join : (j e : ℕ) → j < size E → e < size E → is_join (task_of E e) (event E j) ≡ true → Precedes o e j
  keeps_join j e k l t = keep e j (file_lower E e j l k (join_last E f₀ file j e k l t)) k (join_brings j e k l t)

  keeps_cause : (e s : ℕ) → e < size E → Memᴰ s (causes E.levels E.events e) → Precedes o s e
  keeps_cause e s l h = keep s e (causes_lower E acc e s l h) l (up_cause E acc x e s inside l h)

  -- ---- the rules

  none_before : (q : Event → Bool) (e : ℕ) → ((a : ℕ) → a < size E → q (event E a) ≡ true → ¬ (Precedes o a e)) → eqb (count q (earlier E o e)) 0 ≡ true
  none_before q e h =
      eq-eqb _ _
      (count_earlier E o once q e
      ∙ tally_zero (λ a. q (event E a) && sooner o a e) (size E)
      (λ a l.
      fails_both (q (event E a)) (sooner o a e) (λ t s. h a l t (ltb-true _ _ s))))
    where
      fails_both : (a b : Bool) → (a ≡ true → b ≡ true → ⊥) → (a && b) ≡ false
      fails_both true true h = absurd (h refl refl)
      fails_both true false h = refl
      fails_both false b h = refl

  not_joined_lem : (e : ℕ) → e < size E → not_joined (earlier E o e) (event E e) ≡ true
  not_joined_lem e l = none_before (is_join (task_of E e)) e (λ a k t p. let q = keeps_join a e k l t in omega arith)

  fork_kept_lem : (e : ℕ) → e < size E → fork_kept (earlier E o e) (event E e) ≡ true
  fork_kept_lem e l =
      implies_by (eqb (kind_of E e) fork) _
      (λ t.
      let own = both t (eq-eqb (object_of E e) (object_of E e) refl) in
      both
      (both (to_not (ne_eqb _ _ (fork_other E f₀ file e l t)))
      (none_before (is_fork (object_of E e)) e (λ a k s p. let q = ap (place o) (one_fork E f₀ file (object_of E e) a e k l s own) in omega arith)))
      (none_before (of_task (object_of E e)) e
      (λ a k s p. let q = keeps_fork e a l k (both t (eq-eqb _ _ (sym (eqb-true (task_of E a) (object_of E e) s)))) in omega arith)))

  join_kept_lem : (e : ℕ) → e < size E → join_kept (earlier E o e) (event E e) ≡ true
  join_kept_lem e l =
      implies_by (eqb (kind_of E e) join) _
      (λ t.
      let own = both t (eq-eqb (object_of E e) (object_of E e) refl) in
      both (both (to_not (ne_eqb _ _ (join_other E f₀ file e l t))) (forked t))
      (none_before (is_join (object_of E e)) e (λ a k s p. let q = ap (place o) (one_join E f₀ file (object_of E e) a e k l s own) in omega arith)))
    where
      forked : eqb (kind_of E e) join ≡ true → ltb 0 (count (is_fork (object_of E e)) (earlier E o e)) ≡ true
      forked t =
          let (f, k, q, p) = join_forked E f₀ file e l t in
          let still = keep f e (file_lower E f e k l p) l (brings e f l (has_join_fork E e f t (fork_found E f₀ file (object_of E e) f k q))) in
          let h = tally_has (λ a. is_fork (object_of E e) (event E a) && sooner o a e) (size E) f k (both q (lt-ltb _ _ still)) in
          let s = count_earlier E o once (is_fork (object_of E e)) e in omega tests

  -- of the waits at or before a wait, those after the first ones have each a signal of their own before it
  wait_served : (e : ℕ) → e < size E → eqb (kind_of E e) wait ≡ true
      → tally (λ a. is_wait (object_of E e) (event E a) && sooner o a e) (size E)
      < start_of E.levels (object_of E e) + tally (λ a. is_signal (object_of E e) (event E a) && sooner o a e) (size E)
  wait_served e l t =
      let more = tally_lt (λ a. is_wait S (event E a) && sooner o a e) at (size E) e
      (λ a k u. let s = second (is_wait S (event E a)) (sooner o a e) u in both (first (is_wait S (event E a)) _ u) (omega tests)) l
      (and_fails (is_wait S (event E e)) (omega tests)) (both (both t (eq-eqb S S refl)) (omega tests)) in
      let parts = tally_split at early (size E) in
      let few = tally_le (λ a. at a && early a) (λ a. is_wait S (event E a) && early a) (size E)
      (λ a k u. let (w, b, c) = all_three (is_wait S (event E a)) _ (early a) u in both w c) in
      let ranks = tally_first (λ w. is_wait S (event E w)) first_ones (size E) in
      let each = tally_inject M one (λ a. at a && not (early a)) (λ a. is_signal S (event E a) && sooner o a e) (size E) (size E) give in
      omega arith
    where
      S : ℕ
      S = object_of E e

      first_ones : ℕ
      first_ones = start_of E.levels S

      early : ℕ → Bool
      early a = ltb (tally (λ w. is_wait S (event E w)) a) first_ones

      at : ℕ → Bool
      at a = is_wait S (event E a) && leb (place o a) (place o e)

      M : ℕ → ℕ → Type 0
      M a s = (is_wait S (event E a) ≡ true) × (matched E.levels E.events a ≡ Some s)

      rank : (a s : ℕ) → M a s → tally (λ w. is_wait S (event E w)) a ≡ first_ones + tally (λ b. is_signal S (event E b)) s
      rank a s (w, q) =
          subst (λ (y : ℕ). tally (λ w. is_wait y (event E w)) a ≡ start_of E.levels y + tally (λ b. is_signal y (event E b)) s) (object_is 2 S (event E a) w)
          (sym (matched_wait E a s q).1.rank)

      one : (a b s : ℕ) → M a s → M b s → a ≡ b
      one a b s u v = rank_same (λ w. is_wait S (event E w)) a b u.0 v.0 (rank a s u ∙ sym (rank b s v))

      give : (a : ℕ) → a < size E → (at a && not (early a)) ≡ true → (s : ℕ) × (s < size E) × ((is_signal S (event E s) && sooner o s e) ≡ true) × M a s
      give a k u =
          let (w, near, late) = all_three (is_wait S (event E a)) (leb (place o a) (place o e)) (not (early a)) u in
          let before = leb-true (place o a) (place o e) near in
          let later = subst (λ (y : ℕ). start_of E.levels y ≤ tally (λ w. is_wait y (event E w)) a) (sym (object_is 2 S (event E a) w))
          (ltb-false _ first_ones (of-not (early a) late)) in
          let (s, q) = matched_found E acc a k (kind_is 2 S (event E a) w) later in
          let m = (matched_wait E a s q).1 in
          let p = keeps_cause a s k (Memᴰ.append_right (sources E.events a) (Memᴰ.append_left _ (in_found q))) in
          (s, m.inside, both (subst (λ (y : ℕ). is_signal y (event E s) ≡ true) (object_is 2 S (event E a) w) m.signal) (lt-ltb (place o s) (place o e) (omega arith)), (w, q))

  wait_kept_lem : (e : ℕ) → e < size E → wait_kept E.levels (earlier E o e) (event E e) ≡ true
  unfolding wait_kept
  wait_kept_lem e l =
      implies_by (eqb (kind_of E e) wait) _
      (λ t.
      let h = wait_served e l t in
      let w = count_earlier E o once (is_wait (object_of E e)) e in
      let s = count_earlier E o once (is_signal (object_of E e)) e in omega tests)

  -- the first posts on its flag, as many as its post count, are before a flag wait
  flag_served : (e : ℕ) → e < size E → eqb (kind_of E e) flag_wait ≡ true
      → post_of E.levels (object_of E e) ≤ tally (λ a. is_post (object_of E e) (event E a) && sooner o a e) (size E)
  flag_served e l t =
      let enough = flag_before E acc e l t in
      let more = tally_grow post e (size E) (omega arith) in
      let ranks = tally_first post n (size E) in
      let kept = tally_le (λ a. post a && ltb (tally post a) n) (λ a. post a && sooner o a e) (size E)
      (λ a k u. let p = first (post a) (ltb (tally post a) n) u in both p (lt-ltb _ _ (opens a k p (ltb-true (tally post a) n (second (post a) _ u))))) in
      omega arith
    where
      post : ℕ → Bool
      post a = is_post (object_of E e) (event E a)

      n : ℕ
      n = post_of E.levels (object_of E e)

      opens : (a : ℕ) → a < size E → post a ≡ true → tally post a < n → Precedes o a e
      opens a k p r =
          keeps_cause e a l
          (Memᴰ.append_right (sources E.events e)
          (Memᴰ.append_right (found (matched E.levels E.events e)) (opened_has E e a t (record { inside = k; post = p; rank = r }))))

  flag_kept_lem : (e : ℕ) → e < size E → flag_kept E.levels (earlier E o e) (event E e) ≡ true
  unfolding flag_kept
  flag_kept_lem e l =
      implies_by (eqb (kind_of E e) flag_wait) _
      (λ t. let h = flag_served e l t in let p = count_earlier E o once (is_post (object_of E e)) e in omega tests)

  rules : (e : ℕ) → e < size E → obeys E.levels (earlier E o e) (event E e) ≡ true
  unfolding obeys life_kept
  rules e l = both (both (both (both (not_joined_lem e l) (fork_kept_lem e l)) (join_kept_lem e l)) (wait_kept_lem e l)) (flag_kept_lem e l)

  pub forward_admissible : Admissible E (bring_forward E.events (recorded E) x)
  unfolding bring_forward
  forward_admissible =
      record {
        once = once;
        own = λ a b k l t. keep a b k l (up_own E acc x a b (omega arith) t);
        rules = obeying_by E o once rules;
      }

  -- another event that the recorded vectors do not order before x comes after it
  pub forward_precedes : (a : ℕ) → ¬ (a ≡ x) → ordered E.events (recorded E) a x ≡ false → Precedes (bring_forward E.events (recorded E) x) x a
  unfolding bring_forward ordered
  forward_precedes a d h =
      parted_first up (size E) x a inside (up_self E acc x inside) (and_false (not (eqb a x)) (up a) h (to_not (ne_eqb a x d)))
