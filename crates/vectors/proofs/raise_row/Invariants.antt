-- raise_row meets its contract: after t turns the first t numbers are raised, and those that turn t reads are as they were.
-- Assumes nothing.
use mathlib.Core.Path.{◌≡◌}
use Prim.Native.Nat.{◌+◌}
use lib.ListN.{get_or}
use Rattle.vectors.specs.Rows.{raised_at, Rose}
use Rattle.vectors.proofs.raise_row.Given as goal

abbrev pub invariant-loop-t : goal.invariant-loop-t
invariant-loop-t l =
    (l.v ≡ raised_at l.initial.v l.a (λ t. get_or l.initial.v (l.b + t) 0) l.t) × Rose l.initial.v l.v l.changed
