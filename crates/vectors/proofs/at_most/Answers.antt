-- at_most meets its contract: the library's count is that of the model.
-- Assumes nothing.
use Rattle.std.proofs.Common.{◌∙◌, sym, arith}
use lib.Dec.{leb}
use lib.Seq.{take_all}
use Rattle.vectors.proofs.Stores.{count_is}
use Rattle.vectors.proofs.at_most.Goals as goal

pub returns : goal.returns
returns c =
    let a = c.args in
    let n = rw (take_all c.loop-y.y-index a.s.now (omega arith)) at c.loop-y.invariant.1 in
    n ∙ sym (count_is (λ y. leb y a.x) a.s.now)
