-- `layout::put_records` meets its contract. The invariant: the first i records of the order stand at the front, and the rest of the
-- output is as it was. Assumes nothing.
use mathlib.Core.Path.{◌≡◌}
use mathlib.Core.List.{◌++◌}
use Prim.Native.Nat.{◌*◌}
use lib.ListN.{take, drop}
use Rattle.model.specs.Writing.{records_in}
use Rattle.layout.proofs.put_records.Given as goal

abbrev pub invariant-loop-i : goal.invariant-loop-i
invariant-loop-i l =
    l.out ≡ records_in l.records (take l.i l.order) ++ drop (4 * l.i) l.initial.out
