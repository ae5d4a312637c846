-- Laws of comparing level byte by level byte and task by task: how what is told of the first ones goes on by one. Assumes nothing.
use mathlib.Core.Path.{◌≡◌, refl, sym}
use Rattle.std.specs.Prelude.{Ok, Err}
use mathlib.Core.Bool.{Bool, true, false, ◌&&◌}
use mathlib.Core.List.{List}
use Prim.Native.Nat.{ℕ, zero, suc, ◌+◌, ◌<◌}
use lib.ListN.{get_or}
use native.Mathlib.Omega.{arith}
use Rattle.model.specs.declared.Event.{Event}
use Rattle.model.specs.declared.Counts.{Counts}
use Rattle.model.specs.declared.Refusal.{Refusal}
use Rattle.model.specs.Refusals.{Check, unless, and_then}
use Rattle.model.specs.Recording.{semaphores_of, flags_of}
use Rattle.model.specs.File.{events_of, levels_by, recording_by}
use Rattle.model.specs.Together.{same_counts, same_levels, own_records, records_alike, tasks_alike, work_alike}
use Rattle.model.proofs.Checks.{none_yet, the_first}
use Rattle.model.proofs.Tests.{and_fails, ne_eqb, last_or_lower}
use Rattle.alike.specs.Alike.{same_resources}

-- a place below n at which the two differ
pub other_level : (x y : List ℕ) (n i : ℕ) → i < n → (get_or x i 0 ≡ get_or y i 0 → ⊥) → false ≡ same_levels x y n
unfolding same_levels
other_level x y zero i h t = absurd (omega arith)
other_level x y (suc n) i h t =
    last_or_lower h
    (λ q. rw (← q, ne_eqb (get_or x i 0) (get_or y i 0) t) (sym (and_fails (same_levels x y i) refl)))
    (λ k. rw (← other_level x y n i k t))

-- ---- the tests before the records

-- three tests with one refusal are one test
as_one : (a b c : Bool) (r : Refusal) (rest : Unit {0} → Check) → unless a r (λ _. unless b r λ _. unless c r rest) ≡ unless (a && b && c) r rest
as_one true true c r rest = refl
as_one true false c r rest = refl
as_one false b c r rest = refl

pub resources_first : (s : List ℕ) (c : Counts) (b : List ℕ) (u : List ℕ) (d : Counts) (g : List ℕ)
    → work_alike (recording_by s c b) (recording_by u d g)
    ≡ unless (same_resources c b d g) (Refusal.Differ 0 0) λ _. tasks_alike (events_of s) (events_of u) c.tasks
unfolding work_alike same_resources
resources_first s c b u d g =
    as_one (same_counts c d) (same_levels (levels_by c b).starts (levels_by d g).starts (semaphores_of c))
    (same_levels (levels_by c b).posts (levels_by d g).posts (flags_of c)) (Refusal.Differ 0 0) λ _. tasks_alike (events_of s) (events_of u) c.tasks

-- ---- task by task

-- what task t's records give
abbrev own : List Event → List Event → ℕ → Check
own l m t = records_alike t 1 (own_records l t) (own_records m t)

-- this, r, where the tasks below it are alike
module _ (l m : List Event) (t : ℕ) (r : Check) (p : (Ok tt) ≡ tasks_alike l m t) (q : r ≡ own l m t) where
  up : (u : ℕ) → tasks_alike l m (suc u) ≡ and_then (tasks_alike l m u) λ _. own l m u
  unfolding tasks_alike
  up u = refl

  pub alike_so_far : r ≡ Ok tt → Ok tt ≡ tasks_alike l m (t + 1)
  alike_so_far = none_yet (tasks_alike l m) (own l m) up t r p q

  pub first_differing : (x : Refusal) → r ≡ Err x → (n : ℕ) → t < n → Err x ≡ tasks_alike l m n
  first_differing = the_first (tasks_alike l m) (own l m) up t r p q
