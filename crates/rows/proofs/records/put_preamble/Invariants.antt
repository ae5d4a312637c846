-- A byte more each time.
use Rattle.std.proofs.Common.{◌+◌, ◌≤◌}
use Rattle.rows.proofs.records.put_preamble.Given as goal

abbrev pub invariant-loop-i : goal.invariant-loop-i
invariant-loop-i g l = l.file.length ≤ l.fn.file.length + l.i
