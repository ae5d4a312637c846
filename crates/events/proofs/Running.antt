-- Laws of the running counts: what one more at a place changes, how the state starts and goes on, and that it gives a position. Assumes nothing.
use mathlib.Core.Path.{◌≡◌, refl, sym, ap, subst, ◌∙◌}
use mathlib.Core.List.{List}
use Prim.Native.Nat.{ℕ, zero, suc, ◌+◌, ◌*◌, ◌/◌, ◌≤◌, ◌<◌}
use native.Mathlib.Nat.{add-zero}
use native.Mathlib.Omega.{arith}
use lib.Dec.{eqb}
use lib.ListN.{length, get_or, replicate, length-set, length-replicate, get_or-replicate}
use lib.Seq.{get_or-set_same, get_or-set_other}
use Rattle.model.specs.Numbers.{bit, sum, tally}
use Rattle.model.specs.Recording.{of_task, event_in}
use Rattle.model.specs.File.{events_of}
use Rattle.model.specs.Vectors.{position}
use Rattle.model.proofs.Tests.{cases, tests, eq-eqb, bit_le}
use Rattle.events.specs.Running.{more, Running}
use Rattle.events.proofs.Laws.{task_at, tally_next}

-- one more at i is one more there, and nothing elsewhere
pub more_at : (l : List ℕ) (i j : ℕ) → i < length l → get_or (more l i) j 0 ≡ get_or l j 0 + bit (eqb i j)
more_at l i j h =
    cases (eqb i j)
    (λ t. let e : i ≡ j = omega tests in rw (t, ← e) (get_or-set_same l i (get_or l i 0 + 1) 0 h))
    (λ t. let e : j ≡ i → ⊥ = λ q. omega tests in rw t (get_or-set_other l i j (get_or l i 0 + 1) 0 e ∙ sym (add-zero (get_or l j 0))))

-- before the first event
pub start : (s : List ℕ) → Running s 0 (replicate 256 0)
unfolding sum
start s = record { wide = length-replicate {A = ℕ} 256 0; owned = λ t h. get_or-replicate 256 t 0 0 h }

-- the event n is of task t
module _ (s : List ℕ) (n t : ℕ) (own : List ℕ) (r : Running s n own) (l : n < length s / 4) (e : t ≡ get_or s (4 * n) 0) (b : t < 256) where
  pub next : Running s (n + 1) (more own t)
  next =
      record {
        wide = length-set own t (get_or own t 0 + 1) ∙ r.wide;
        owned =
            λ x h.
            let q = ap (λ (y : ℕ). bit (eqb y x)) (e ∙ sym (task_at s n l)) in
            omega (arith, q, more_at own t x (omega (arith, r.wide)), r.owned x h, tally_next (λ a. of_task x (event_in (events_of s) a)) n);
      }

  -- its position is one more than those before it in its task
  pub placed : get_or own t 0 + 1 ≡ position (events_of s) n
  unfolding position sum
  placed =
      let w = e ∙ sym (task_at s n l) in
      let here : bit (of_task t (event_in (events_of s) n)) ≡ 1 = ap bit (eq-eqb (event_in (events_of s) n).task t (sym w)) in
      subst (λ (x : ℕ). get_or own t 0 + 1 ≡ tally (λ a. of_task x (event_in (events_of s) a)) n + bit (of_task x (event_in (events_of s) n))) w
      (omega (arith, r.owned t b, here))

tally_most : (s : List ℕ) (t n : ℕ) → tally (λ a. of_task t (event_in (events_of s) a)) n ≤ n
unfolding sum
tally_most s t zero = omega arith
tally_most s t (suc n) = omega (arith, tally_most s t n, bit_le (of_task t (event_in (events_of s) n)) _ (λ _. refl))

-- a count is at most as many as have been passed
pub few : (s : List ℕ) (n : ℕ) (own : List ℕ) → Running s n own → (t : ℕ) → t < 256 → get_or own t 0 ≤ n
few s n own r t h = omega (arith, r.owned t h, tally_most s t n)
