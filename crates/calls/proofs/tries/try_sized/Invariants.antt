-- No difference is lost from turn to turn.
use Rattle.std.proofs.Common.{◌≤◌}
use Rattle.calls.proofs.tries.try_sized.Given as goal

abbrev pub invariant-loop-letters : goal.invariant-loop-letters
invariant-loop-letters l = l.fn.trial.tally.wrong ≤ l.trial.tally.wrong
