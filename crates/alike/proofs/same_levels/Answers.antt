-- `alike::same_levels` meets its contract. The invariant: the first i level bytes are the same. Assumes nothing.
use mathlib.Core.Path.{sym, ◌∙◌}
use Rattle.alike.proofs.Laws.{other_level}
use Rattle.alike.proofs.same_levels.Goals as goal

pub returns-then-level_at : goal.returns-then-level_at
returns-then-level_at c =
    other_level _ _ _ c.loop-i.i c.loop-i-test.true (λ q. c.if-level_at.true (c.level_at.ensures ∙ q ∙ sym c.level_at-in-loop-i.ensures))
