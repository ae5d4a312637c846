-- No difference is lost from turn to turn.
use Rattle.std.proofs.Common.{◌≤◌}
use Rattle.calls.proofs.writing.try_writing.Given as goal

abbrev pub invariant-loop-way : goal.invariant-loop-way
invariant-loop-way l = l.fn.trial.tally.wrong ≤ l.trial.tally.wrong
