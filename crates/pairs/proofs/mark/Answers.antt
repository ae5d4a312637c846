-- mark meets its contract. Assumes nothing.
use mathlib.Core.Path.{sym, ◌∙◌}
use Rattle.pairs.proofs.Race.{mark_by}
use Rattle.pairs.proofs.mark.Goals as goal

pub returns-then-unordered : goal.returns-then-unordered
returns-then-unordered c =
    mark_by _ _ _ _ _ (sym c.if-unordered.true ∙ c.unordered.ensures)

pub returns-else-unordered : goal.returns-else-unordered
returns-else-unordered c =
    mark_by _ _ _ _ _ (sym c.if-unordered.false ∙ c.unordered.ensures)
