-- ordered meets its contract: another event is ordered before b where it is at or before it. Assumes nothing.
use Rattle.passes.proofs.Tests.{ordered_self, ordered_other}
use Rattle.passes.proofs.lent.EventVectors.ordered.Goals as goal

pub returns-then-a-b : goal.returns-then-a-b
returns-then-a-b c =
    ordered_self _ _ _ _ c.if-a-b.true

pub returns : goal.returns
returns c =
    ordered_other _ _ _ _ c.if-a-b.false c.at_or_before.ensures
