-- Four bytes more for each event that was drawn.
use Rattle.std.proofs.Common.{◌+◌, ◌*◌, ◌≤◌}
use Rattle.rows.proofs.make.make.Given as goal

abbrev pub invariant-loop-i : goal.invariant-loop-i
invariant-loop-i g l = l.file.length ≤ 65535 + 4 * l.i
