-- No difference is lost from turn to turn.
use Rattle.std.proofs.Common.{◌≤◌}
use Rattle.calls.proofs.tries.try_pairs.Given as goal

abbrev pub invariant-loop-i : goal.invariant-loop-i
invariant-loop-i l = l.fn.trial.tally.wrong ≤ l.trial.tally.wrong
