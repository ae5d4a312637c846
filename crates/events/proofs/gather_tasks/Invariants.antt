-- `events::gather_tasks` meets its contract: the chains are those of the events from e on. Assumes nothing.
use Prim.Native.Nat.{◌/◌}
use lib.ListN.{length}
use Rattle.events.specs.Chains.{by_task, Chained}
use Rattle.events.proofs.gather_tasks.Given as goal

abbrev pub invariant-loop-e : goal.invariant-loop-e
invariant-loop-e l =
    Chained (by_task l.records) (length l.records / 4) 256 l.e l.chain
