-- gather meets its contract: to write the numbers that are left over what is there gives them all.
-- Assumes nothing.
use mathlib.Core.Path.{◌≡◌}
use lib.ListN.{drop}
use lib.Seq.{sets}
use Rattle.vectors.specs.Rows.{column}
use Rattle.vectors.proofs.gather.Given as goal

abbrev pub invariant-loop-i : goal.invariant-loop-i
invariant-loop-i l =
    sets l.out l.i (drop l.i (column l.tasks l.v l.t l.events)) ≡ sets l.initial.out 0 (column l.tasks l.v l.t l.events)
