-- `events::fork_of` meets its contract. Assumes nothing.
use mathlib.Core.Path.{sym, ap, ◌∙◌}
use Prim.Native.Nat.{ℕ}
use native.Mathlib.Omega.{arith}
use lib.ListN.{get_or}
use Rattle.events.specs.Kept.{found_below}
use Rattle.events.proofs.Laws.{events_length}
use Rattle.events.proofs.Kept.{fork_found}
use Rattle.events.proofs.fork_of.Goals as goal

pub returns-then-task-lt256 : goal.returns-then-task-lt256
returns-then-task-lt256 c =
    let f = c.found_below.ensures in
    let n = events_length c.args.records.now in
    (f.0 ∙ ap (λ (m : ℕ). found_below m (get_or c.args.forks.now c.args.task 0)) (sym n) ∙ c.requires c.args.task (omega arith), f.1)

pub returns : goal.returns
returns c =
    fork_found c.args.records.now c.args.task _ c.last_on.ensures
