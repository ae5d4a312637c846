-- `events::gather` meets its contract: the chains are those of the events from e on. Assumes nothing.
use Prim.Native.Nat.{◌/◌}
use lib.ListN.{length}
use Rattle.events.specs.Chains.{Chained}
use Rattle.events.proofs.Chains.{in_slot}
use Rattle.events.proofs.gather.Given as goal

abbrev pub invariant-loop-e : goal.invariant-loop-e
invariant-loop-e l =
    Chained (in_slot l.records) (length l.records / 4) 193 l.e l.chain
