-- `events::gather_in` meets its contract: the chains are those of the places from i on. Assumes nothing.
use lib.ListN.{length}
use Rattle.events.specs.Chains.{access_of, Chained}
use Rattle.events.proofs.gather_in.Given as goal

abbrev pub invariant-loop-i : goal.invariant-loop-i
invariant-loop-i l =
    Chained (access_of l.records l.order) (length l.order) l.limit l.i l.chain
