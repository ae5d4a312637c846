-- list_all meets its contract: listed so far are the entries of the cells below `cell`. Assumes nothing.
use Rattle.model.specs.Numbers.{each}
use Rattle.model.specs.Pairs.{cell_entries}
use Rattle.pairs.specs.Lent.{Laid}
use Rattle.pairs.specs.Listing.{by}
use Rattle.pairs.proofs.lent.Listing.list_all.Given as goal

abbrev pub invariant-loop-cell : goal.invariant-loop-cell
invariant-loop-cell l =
    Laid l.initial.out 0 (each (by cell_entries l.self.vectors l.self.order.now) l.cell) l.out l.next
