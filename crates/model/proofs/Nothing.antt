-- A recording without events: there is nothing to raise and nothing to list, so one quiet pass settles it.
-- Assumes nothing.
use Prim.Native.Nat.{ℕ, zero, suc, ◌<◌, zero-le}
use mathlib.Core.Path.{◌≡◌, refl, ap, ap₂, ◌∙◌}
use mathlib.Core.Bool.{true, false}
use mathlib.Core.List.{List, []}
use native.Mathlib.Nat.{not-suc-le-zero, zero-mul}
use lib.ListN.{length}
use Rattle.model.specs.Numbers.{list_from, each, flat_map_tails, picked}
use Rattle.model.specs.Recording.{Recording, size, tasks, cells}
use Rattle.model.specs.Vectors.{flat, start}
use Rattle.model.specs.Passes.{pass_to, pass, Run, further, run}
use Rattle.model.specs.Recorded.{recorded_to, recorded}
use Rattle.model.specs.Pairs.{cell_entries, entries_in, task_order, entries, listed}
use Rattle.model.specs.Analysing.{work_fits, filled, done, analysed}
use Rattle.model.proofs.Tests.{le-leb}
use Rattle.model.proofs.Each.{each_none}

-- its run with a budget
abbrev run_none : ℕ → Run
run_none zero = record { passes = 0; settled = false; vectors = [] }
run_none (suc b) = record { passes = 1; settled = true; vectors = [] }

module _ (E : Recording) (none : size E ≡ 0) where
  start_none : start E ≡ []
  unfolding start list_from
  start_none = rw none

  pass_none : pass E [] ≡ []
  unfolding pass pass_to
  pass_none = rw none

  recorded_none : recorded E ≡ []
  unfolding recorded recorded_to
  recorded_none = rw none start_none

  -- ---- the run: its first pass is quiet

  first_pass : further E (run_none zero) ≡ run_none (suc zero)
  unfolding further
  first_pass = rw pass_none

  run_none_lem : (b : ℕ) → run E b ≡ run_none b
  unfolding run further
  run_none_lem zero = rw start_none
  run_none_lem (suc zero) = ap (further E) (run_none_lem zero) ∙ first_pass
  run_none_lem (suc (suc b)) = ap (further E) (run_none_lem (suc b))

  -- ---- the list: no event stands in task order

  order_none : task_order E.events (tasks E) ≡ []
  unfolding task_order picked each
  order_none = each_none _ (tasks E) (λ t l. rw none)

  pub listed_none : (b : ℕ) → listed E b ≡ []
  unfolding listed entries entries_in cell_entries flat_map_tails
  listed_none b = rw order_none (each_none _ (cells E) (λ c l. refl))

  -- ---- what analysing answers

  done_by : (b : ℕ) → done E b ≡ analysed (run_none b).passes (run_none b).settled 0
  done_by b = ap₂ (λ (r : Run) (n : ℕ). analysed r.passes r.settled n) (run_none_lem b) (ap length (listed_none b))

  pub done_unspent : done E 0 ≡ analysed 0 false 0
  done_unspent = done_by 0

  pub done_quiet : (b : ℕ) → 0 < b → done E b ≡ analysed 1 true 0
  done_quiet zero l = absurd (not-suc-le-zero l)
  done_quiet (suc b) l = done_by (suc b)

  -- ---- the work memory: none is needed, and none is filled

  pub work_none : (w : List ℕ) → work_fits E w ≡ true
  work_none w = rw (none, zero-mul (tasks E)) (le-leb 0 (length w) zero-le)

  no_vectors : (b : ℕ) → (run E b).vectors ≡ []
  no_vectors zero = rw (run_none_lem zero)
  no_vectors (suc b) = rw (run_none_lem (suc b))

  pub filled_none : (b : ℕ) (w : List ℕ) → filled E b w ≡ w
  unfolding filled flat
  filled_none b w = rw (no_vectors b, recorded_none, none, zero-mul (tasks E))
