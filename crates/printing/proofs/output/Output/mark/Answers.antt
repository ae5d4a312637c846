-- `printing::output::Output::mark` meets its contract. Assumes nothing.
use Rattle.model.proofs.Tests.{eq-eqb, ne_eqb}
use Rattle.model.specs.Text.{bytes}
use Rattle.printing.proofs.output.Output.mark.Goals.{then-mark-eq1, else-mark-eq1}
use Rattle.printing.proofs.output.Output.mark.Goals as goal

pub returns-clause-put : goal.returns-clause-put
unfolding bytes
returns-clause-put c = elim c.if-mark-eq1.branch [
  | then-mark-eq1 w ↦ rw (eq-eqb _ _ w.if-mark-eq1.true) (rw w.text-is at c.text.ensures.put)
  | else-mark-eq1 w ↦ rw (ne_eqb _ _ w.if-mark-eq1.false) (rw w.text-is at c.text.ensures.put)
]
