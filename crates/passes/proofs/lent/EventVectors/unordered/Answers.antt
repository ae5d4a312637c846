-- unordered meets its contract. Assumes nothing.
use Rattle.passes.proofs.Tests.{unordered_by}
use Rattle.passes.proofs.lent.EventVectors.unordered.Goals as goal

pub returns : goal.returns
returns c =
    unordered_by _ _ _ _ _ _ c.ordered.ensures c.ordered-2.ensures
