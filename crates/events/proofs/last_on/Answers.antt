-- `events::last_on` meets its contract. The invariant: the last among the first i events is the last among all n. Assumes nothing.
use mathlib.Core.Path.{◌∙◌}
use native.Mathlib.Omega.{arith}
use Rattle.events.proofs.Laws.{last_none, last_here, last_lower}
use Rattle.events.proofs.last_on.Goals as goal

pub returns-then-is_on : goal.returns-then-is_on
returns-then-is_on c =
    let k = c.loop-i in
    last_here _ k.i _ _ (omega arith) c.is_on.ensures c.if-is_on.true
    ∙ k.invariant

pub loop-i-preserved : goal.loop-i-preserved
loop-i-preserved c =
    let k = c.loop-i in
    last_lower _ k.i _ _ (omega arith) c.is_on.ensures c.if-is_on.false
    ∙ k.invariant

pub returns : goal.returns
returns c =
    last_none _ c.loop-i.i (omega arith) ∙ c.loop-i.invariant
