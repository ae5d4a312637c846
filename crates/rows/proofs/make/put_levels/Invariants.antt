-- A byte more for each level.
use Rattle.std.proofs.Common.{◌+◌, ◌≤◌}
use Rattle.rows.proofs.make.put_levels.Given as goal

abbrev pub invariant-loop-i : goal.invariant-loop-i
invariant-loop-i g l = l.file.length ≤ l.fn.file.length + l.i
