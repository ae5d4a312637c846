-- list_cell meets its contract: listed so far are the rows of the places that the walk has yielded. Assumes nothing.
use Rattle.model.specs.Numbers.{flat_map}
use Rattle.pairs.specs.Lent.{Laid}
use Rattle.pairs.specs.Listing.{by}
use Rattle.pairs.proofs.Race.{row_in}
use Rattle.pairs.proofs.lent.Listing.list_cell.Given as goal

abbrev pub invariant-loop-i : goal.invariant-loop-i
invariant-loop-i l =
    Laid l.initial.out l.p (flat_map (by row_in l.self.vectors l.self.order.now l.cell) l.yielded) l.out l.next
