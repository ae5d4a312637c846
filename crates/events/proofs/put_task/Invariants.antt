-- `events::put_task` meets its contract: put so far are the events that were yielded. Assumes nothing.
use mathlib.Core.Path.{◌≡◌}
use Prim.Native.Nat.{◌+◌}
use lib.ListN.{length}
use lib.Seq.{sets}
use Rattle.events.proofs.put_task.Given as goal

abbrev pub invariant-loop-e : goal.invariant-loop-e
invariant-loop-e l =
    record { order_is : l.order ≡ sets l.initial.order l.at l.yielded; next_is : l.next ≡ l.at + length l.yielded }
