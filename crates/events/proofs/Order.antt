-- Laws of the events in task order, put one after another into an array. Assumes nothing.
use mathlib.Core.Path.{◌≡◌, sym, ap, ◌∙◌}
use mathlib.Core.Bool.{Bool, true, cond}
use mathlib.Core.List.{List, [], ◌∷◌, ◌++◌}
use Prim.Native.Nat.{ℕ, ◌+◌, ◌/◌, ◌≤◌, ◌<◌}
use native.Mathlib.Nat.{zero-add}
use native.Mathlib.Omega.{arith}
use lib.ListN.{length, take, drop}
use lib.Seq.{sets, take-append_seam}
use Rattle.model.specs.Numbers.{each, picked}
use Rattle.model.specs.File.{events_of}
use Rattle.model.specs.Pairs.{own_events, task_order}
use Rattle.model.specs.declared.Event.{Event}
use Rattle.model.proofs.Each.{each_more, each_skip, each_count, each_longer}
use Rattle.model.proofs.Stores.{sets-append, sets_front}
use Rattle.model.proofs.TaskOrder.{order_length}
use Rattle.events.specs.Chains.{by_task, Nearest}
use Rattle.events.specs.Kept.{Tasked}
use Rattle.events.proofs.Laws.{events_length}

-- ---- one task's events

module _ (p : ℕ → Bool) where
  abbrev one : ℕ → List ℕ
  one e = cond (p e) (e ∷ []) []

  pub picked_more : (e : ℕ) → p e ≡ true → picked p (e + 1) ≡ picked p e ++ (e ∷ [])
  unfolding picked
  picked_more e t = each_more one e ∙ rw t

  -- what a chain passes over is not picked
  pub picked_skip : (n m b : ℕ) → Nearest p n m b → picked p b ≡ picked p m
  unfolding picked
  picked_skip n m b r = each_skip one m b r.low (λ i l u. rw (r.passed i l u))

  -- there is room for one more where there is for all
  pub picked_room : (e n : ℕ) → e < n → p e ≡ true → length (picked p e) < length (picked p n)
  unfolding picked
  picked_room e n h t =
      omega (arith, each_longer one (e + 1) n (omega arith), each_count one e, ap length (here t))
    where
      here : p e ≡ true → one e ≡ e ∷ []
      here t = rw t

-- a task's events are those picked from all
pub own_events_lem : (s : List ℕ) (t n : ℕ) → n ≡ length s / 4 → picked (by_task s t) n ≡ own_events (events_of s) t
own_events_lem s t n q = ap (picked (by_task s t)) (q ∙ sym (events_length s))

-- ---- all tasks

-- one task more
pub task_next : (l : List Event) (t : ℕ) (old out new : List ℕ) (at i : ℕ) → out ≡ sets old 0 (each (own_events l) t) → at ≡ length (each (own_events l) t)
    → new ≡ sets out at (own_events l t) → i ≡ at + length (own_events l t)
    → (new ≡ sets old 0 (each (own_events l) (t + 1))) × (i ≡ length (each (own_events l) (t + 1)))
task_next l t old out new at i q j r k = (
  r ∙ rw (each_more (own_events l) t, sets-append (each (own_events l) t) (own_events l t) old 0, zero-add (length (each (own_events l) t)), q, j),
  omega (arith, each_count (own_events l) t),
)

module _ (l : List Event) (tasks : ℕ) (named : Tasked l tasks) where
  pub task_room : (t : ℕ) → t < tasks → length (each (own_events l) t) + length (own_events l t) ≤ length l
  unfolding task_order
  task_room t h = omega (arith, each_count (own_events l) t, each_longer (own_events l) (t + 1) tasks (omega arith), order_length l tasks named)

  pub whole_order : (old out : List ℕ) → length l ≤ length old → out ≡ sets old 0 (each (own_events l) tasks) → take (length l) out ≡ task_order l tasks
  unfolding task_order
  whole_order old out h q =
      let n = order_length l tasks named in
      rw (q ∙ sets_front old (each (own_events l) tasks) (length l) n h, ← n) (take-append_seam (each (own_events l) tasks) (drop (length (each (own_events l) tasks)) old))
