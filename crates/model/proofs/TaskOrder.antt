-- The events in task order: each stands there once.
-- Assumes nothing.
use Prim.Native.Nat.{ℕ, zero, suc, ◌+◌, ◌<◌}
use mathlib.Core.Path.{◌≡◌, refl, sym, ap, ◌∙◌}
use mathlib.Core.Bool.{Bool, true, false, cond, ◌&&◌}
use mathlib.Core.List.{List, Memᴰ}
use lib.Dec.{ltb, eqb}
use lib.ListN.{length, get_or}
use Rattle.model.specs.declared.Event.{Event}
use Rattle.model.specs.Numbers.{bit, sum, count, each}
use Rattle.model.specs.Recording.{event_in, of_task}
use Rattle.model.specs.Orders.{occurrences}
use Rattle.model.specs.Pairs.{own_events, task_order}
use Rattle.model.proofs.Tests.{cases, and_true, and_fails, bit_false, ltb-true, eq-eqb, eqb_turned}
use Rattle.model.proofs.Sum.{sum_ext, sum_single, sum_nothing}
use Rattle.model.proofs.Counting.{count_append}
use Rattle.model.proofs.Place.{element, length_once}
use Rattle.model.proofs.Picked.{picked_occurs, picked_mem, picked_in}
use Rattle.model.proofs.Each.{each_of, each_in}

count_each : {A : Type 0} (p : A → Bool) (f : ℕ → List A) (n : ℕ) → count p (each f n) ≡ sum (λ i. count p (f i)) n
unfolding count each sum
count_each p f zero = refl
count_each p f (suc n) = count_append p (each f n) (f n) ∙ ap (λ (k : ℕ). k + count p (f n)) (count_each p f n)

module _ (l : List Event) (tasks : ℕ) where
  pub order_of : (e : ℕ) → Memᴰ e (task_order l tasks) → e < length l
  unfolding task_order
  order_of e h = let (t, k, m) = each_of e (own_events l) tasks h in (picked_mem (λ a. of_task t (event_in l a)) e (length l) m).0

  -- where each event is of a task below `tasks`
  module _ (named : (e : ℕ) → e < length l → (event_in l e).task < tasks) where
    pub order_in : (e : ℕ) → e < length l → Memᴰ e (task_order l tasks)
    unfolding task_order
    order_in e k =
        let t = (event_in l e).task in
        each_in e (own_events l) tasks t (named e k) (picked_in (λ a. of_task t (event_in l a)) e (length l) k (eq-eqb t t refl))

    pub order_once : (e : ℕ) → occurrences e (task_order l tasks) ≡ bit (ltb e (length l))
    unfolding task_order
    order_once e =
        count_each (eqb e) (own_events l) tasks
        ∙ sum_ext (λ t. occurrences e (own_events l t)) term tasks (λ t k. picked_occurs (λ a. of_task t (event_in l a)) e (length l))
        ∙ cases (ltb e (length l))
        (λ h.
        sum_ext term (λ t. cond (eqb t (event_in l e).task) 1 0) tasks (λ t k. own t h)
        ∙ sum_single (λ t. 1) (event_in l e).task tasks (named e (ltb-true e (length l) h)) ∙ sym (ap bit h))
        (λ h. sum_nothing term tasks (λ t k. bit_false (and_fails (eqb (event_in l e).task t) h)) ∙ sym (ap bit h))
      where
        term : ℕ → ℕ
        term t = bit (eqb (event_in l e).task t && ltb e (length l))

        as_bit : (b : Bool) → bit b ≡ cond b 1 0
        as_bit true = refl
        as_bit false = refl

        own : (t : ℕ) → ltb e (length l) ≡ true → term t ≡ cond (eqb t (event_in l e).task) 1 0
        own t h = rw (h, and_true (eqb (event_in l e).task t), eqb_turned (event_in l e).task t) (as_bit (eqb t (event_in l e).task))

    pub order_length : length (task_order l tasks) ≡ length l
    order_length = length_once (length l) (task_order l tasks) order_once

    pub order_at : (i : ℕ) → i < length (task_order l tasks) → get_or (task_order l tasks) i 0 < length l
    order_at i h = (element (length l) (task_order l tasks) order_once i h).0
