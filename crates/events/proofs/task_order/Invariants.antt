-- `events::task_order` meets its contract: put so far are the events of the tasks below `task`. Assumes nothing.
use mathlib.Core.Path.{◌≡◌}
use Prim.Native.Nat.{◌/◌}
use lib.ListN.{length, replicate}
use lib.Seq.{sets}
use Rattle.model.specs.Numbers.{each}
use Rattle.model.specs.File.{events_of}
use Rattle.model.specs.Pairs.{own_events}
use Rattle.events.specs.Chains.{by_task, Chained}
use Rattle.events.proofs.task_order.Given as goal

abbrev pub invariant-loop-task : goal.invariant-loop-task
invariant-loop-task l =
    record {
      chained : Chained (by_task l.records) (length l.records / 4) 256 0 l.chain;
      order_is : l.order ≡ sets (replicate 1024 0) 0 (each (own_events (events_of l.records)) l.task);
      at_is : l.at ≡ length (each (own_events (events_of l.records)) l.task);
    }
