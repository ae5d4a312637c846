-- raise_each meets its contract: after t turns the first t numbers are raised, and the column that turn t reads is as it was.
-- Assumes nothing.
use mathlib.Core.Path.{◌≡◌}
use Rattle.model.specs.Numbers.{kth_least}
use Rattle.vectors.specs.Rows.{raised_at, column, Rose}
use Rattle.vectors.proofs.raise_each.Given as goal

abbrev pub invariant-loop-t : goal.invariant-loop-t
invariant-loop-t l =
    (l.v ≡ raised_at l.initial.v l.at (λ t. kth_least l.k (column l.tasks l.initial.v t l.events)) l.t) × Rose l.initial.v l.v l.changed
