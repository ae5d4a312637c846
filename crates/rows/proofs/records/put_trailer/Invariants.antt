-- Eight bytes are written before the counts, and two for each.
use Rattle.std.proofs.Common.{◌≡◌, ◌+◌, ◌*◌, ◌%◌, ◌^◌}
use Rattle.rows.proofs.records.put_trailer.Given as goal

abbrev pub invariant-loop-count : goal.invariant-loop-count
invariant-loop-count g l = l.file.length ≡ (l.fn.file.length + 8 + 2 * l.count-index) % 2 ^ 64
