-- write meets its contract. Assumes nothing.
use Prim.Native.Nat.{◌*◌, ◌/◌, ◌≤◌}
use native.Mathlib.Nat.{mul-le-mul}
use native.Mathlib.Omega.{arith}
use lib.ListN.{length}
use Rattle.model.specs.Pairs.{entries_in}
use Rattle.pairs.specs.Listing.{by}
use Rattle.pairs.proofs.Race.{list_most}
use Rattle.pairs.proofs.Stores.{counted, refused, listed}
use Rattle.pairs.proofs.lent.Listing.write.Goals as goal

pub overflow_mul-width : goal.overflow_mul-width
overflow_mul-width c =
    let s = c.args.self.now in
    let most : length (by entries_in s.vectors s.order.now) ≤ s.vectors.counts.cells * 1048576 = list_most _ _ _ s.order.now s.linked.along.few in
    let few : c.list_all-pairs.result / 3 ≤ 1073741824 = omega (arith, c.list_all-pairs.ensures.next, most, s.few) in
    omega (arith, mul-le-mul c.requires.1 few)

pub returns-then-room-width : goal.returns-then-room-width
returns-then-room-width c =
    refused _ _ _ _ (counted _ c.list_all-pairs.ensures) c.if-room-width.true

pub returns : goal.returns
returns c =
    listed _ c.requires _ _ _ _ _ (counted _ c.list_all-pairs.ensures) c.if-room-width.false c.list_all.ensures
