-- list_row meets its contract: listed so far are the entries with the places that the walk has yielded. Assumes nothing.
use Rattle.model.specs.Numbers.{flat_map}
use Rattle.pairs.specs.Lent.{Laid}
use Rattle.pairs.specs.Listing.{by}
use Rattle.pairs.proofs.Race.{pair_in}
use Rattle.pairs.proofs.lent.Listing.list_row.Given as goal

abbrev pub invariant-loop-j : goal.invariant-loop-j
invariant-loop-j l =
    Laid l.initial.out l.p (flat_map (by pair_in l.self.vectors l.order l.i) l.yielded) l.out l.next
