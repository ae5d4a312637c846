-- `alike::counterparts` meets its contract. The invariant: of the events at the first i places of the first's task order the twins are
-- kept. Assumes nothing.
use Rattle.model.specs.File.{events_of}
use Rattle.alike.proofs.Places.{Met}
use Rattle.alike.proofs.counterparts.Given as goal

abbrev pub invariant-loop-i : goal.invariant-loop-i
invariant-loop-i l =
    Met (events_of l.first) (events_of l.second) l.here l.i l.kept
