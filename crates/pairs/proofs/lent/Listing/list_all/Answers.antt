-- list_all meets its contract: listed so far are the entries of the cells below `cell`. Assumes nothing.
use mathlib.Core.Path.{refl}
use native.Mathlib.Omega.{arith}
use Rattle.model.specs.Numbers.{each}
use Rattle.model.specs.Pairs.{cell_entries, entries_in}
use Rattle.model.proofs.Each.{each_most}
use Rattle.pairs.specs.Listing.{by}
use Rattle.pairs.proofs.Race.{cell_most}
use Rattle.pairs.proofs.Stores.{laid_none, laid_more, laid_all}
use Rattle.pairs.proofs.lent.Listing.list_all.Goals as goal

pub loop-cell-init : goal.loop-cell-init
unfolding each
loop-cell-init c =
    laid_none _ _ _ refl

pub list_cell-next-requires : goal.list_cell-next-requires
list_cell-next-requires c =
    let s = c.args.self.now in
    let k = c.loop-cell in
    let few = each_most (by cell_entries s.vectors s.order.now) 1048576 (λ x. cell_most _ _ _ s.order.now x s.linked.along.few) k.cell in
    (omega arith, omega (arith, k.invariant.next, few, s.few))

pub loop-cell-preserved : goal.loop-cell-preserved
loop-cell-preserved c =
    laid_more _ c.loop-cell.cell c.loop-cell.auto.out c.loop-cell.invariant c.list_cell-next.ensures

pub returns : goal.returns
unfolding entries_in
returns c =
    laid_all _ _ _ (omega arith) c.loop-cell.invariant
