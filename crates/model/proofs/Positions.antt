-- Positions, and the starting vectors number by number.
-- Assumes nothing.
use Prim.Native.Nat.{ℕ, suc, ◌≤◌, ◌<◌}
use mathlib.Core.Path.{◌≡◌, refl, sym, ap, ◌∙◌}
use mathlib.Core.Bool.{cond}
use mathlib.Core.List.{List, []}
use native.Mathlib.Nat.{le_of_eq}
use native.Mathlib.Omega.{arith}
use lib.Dec.{eqb}
use lib.ListN.{get_or}
use Rattle.model.specs.declared.Event.{Event}
use Rattle.model.specs.Numbers.{sum, tally, list_of}
use Rattle.model.specs.Recording.{Recording, size, tasks, event_in, task_of, of_task}
use Rattle.model.specs.Vectors.{position, number, start}
use Rattle.model.proofs.Tests.{compared, bit_true, eq-eqb}
use Rattle.model.proofs.Sum.{rank_rises}
use Rattle.model.proofs.Lists.{list_of_at}

module _ (E : Recording) where
  pub start_at : (e t : ℕ) → e < size E → t < (tasks E) → number (start E) e t ≡ cond (eqb t (task_of E e)) (position E.events e) 0
  unfolding start
  start_at e t l k =
      ap (λ (r : List ℕ). get_or r t 0) (list_of_at (λ e. list_of (λ t. cond (eqb t (task_of E e)) (position E.events e) 0) (tasks E)) [] (size E) e l)
      ∙ list_of_at (λ t. cond (eqb t (task_of E e)) (position E.events e) 0) 0 (tasks E) t k

module _ (l : List Event) where
  -- as many of its task's records as stand before e, and e
  pub position_rank : (e : ℕ) → position l e ≡ suc (tally (λ a. of_task (event_in l e).task (event_in l a)) e)
  unfolding position sum
  position_rank e = let b = bit_true (eq-eqb (event_in l e).task (event_in l e).task refl) in omega arith

  pub position_pos : (e : ℕ) → 0 < position l e
  position_pos e = let r = position_rank e in omega arith

  pub position_rises : (a b : ℕ) → a < b → (event_in l a).task ≡ (event_in l b).task → position l a < position l b
  position_rises a b k t =
      let p = position_rank a ∙ ap (λ (x : ℕ). suc (tally (λ d. of_task x (event_in l d)) a)) t in
      let q = position_rank b in
      let own = eq-eqb (event_in l a).task (event_in l b).task t in
      let r = rank_rises (λ d. of_task (event_in l b).task (event_in l d)) a b k own in omega arith

  pub position_grows : (a b : ℕ) → a ≤ b → (event_in l a).task ≡ (event_in l b).task → position l a ≤ position l b
  position_grows a b h t =
      compared a b (λ k. let r = position_rises a b k t in omega arith) (λ e. le_of_eq (ap (position l) e)) (λ k. absurd (omega arith))

  -- one event of a task has a position
  pub position_one : (a b : ℕ) → (event_in l a).task ≡ (event_in l b).task → position l a ≡ position l b → a ≡ b
  position_one a b t q =
      compared a b (λ k. let r = position_rises a b k t in absurd (omega arith)) (λ e. e)
      (λ k. let r = position_rises b a k (sym t) in absurd (omega arith))
