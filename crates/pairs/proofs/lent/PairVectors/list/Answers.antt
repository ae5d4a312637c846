-- list meets its contract: the order lent on is the task order of all events. Assumes nothing.
use mathlib.Core.Path.{sym, subst}
use mathlib.Core.List.{List}
use Prim.Native.Nat.{ℕ}
use Rattle.model.specs.Pairs.{entries_in, entries}
use Rattle.events.specs.Chains.{Along}
use Rattle.pairs.specs.Lent.{WrittenList}
use Rattle.pairs.specs.Listing.{by, fits, pairs_of}
use Rattle.pairs.proofs.Chains.{task_order_along}
use Rattle.pairs.proofs.lent.PairVectors.list.Goals as goal

pub list_in-requires : goal.list_in-requires
list_in-requires c =
    let s = c.args.self.now in
    let r = s.placed.records in
    (subst (Along s.records.now) (sym c.task_order-order.ensures) (task_order_along _ _ r.few r.named), c.requires.1, c.requires.2)

pub returns : goal.returns
unfolding entries
returns c =
    let f = c.list_in in
    subst (λ (order : List ℕ). WrittenList c.args.width (by entries_in c.args.self.now order) c.args.out.now f.new.out (fits f.result) (pairs_of f.result))
    c.task_order-order.ensures f.ensures
