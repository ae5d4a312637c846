-- `printing::output::Output::settled` meets its contract. Assumes nothing.
use Rattle.model.specs.Text.{bytes}
use Rattle.printing.proofs.output.Output.settled.Goals.{then-settled, else-settled}
use Rattle.printing.proofs.output.Output.settled.Goals as goal

pub returns-clause-put : goal.returns-clause-put
unfolding bytes
returns-clause-put c = elim c.if-settled.branch [
  | then-settled w ↦ rw w.if-settled.true (rw w.text-is at c.text.ensures.put)
  | else-settled w ↦ rw w.if-settled.false (rw w.text-is at c.text.ensures.put)
]
