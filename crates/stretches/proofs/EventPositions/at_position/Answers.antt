-- at_position meets its contract. The invariant: the last among the first i events is the last of all. Assumes nothing.
use mathlib.Core.Path.{◌∙◌}
use native.Mathlib.Omega.{arith}
use Rattle.events.proofs.Laws.{last_here}
use Rattle.stretches.proofs.EventPositions.at_position.Goals as goal

pub returns-then-is_at : goal.returns-then-is_at
returns-then-is_at c =
    (last_here _ c.loop-i.i _ _ (omega arith) c.is_at.ensures c.if-is_at.true ∙ c.loop-i.invariant, omega arith)
