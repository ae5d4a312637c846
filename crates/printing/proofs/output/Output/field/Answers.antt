-- `printing::output::Output::field` meets its contract. Assumes nothing.
use Rattle.printing.proofs.Putting.{put_then}
use Rattle.printing.proofs.output.Output.field.Goals as goal

pub returns-clause-put : goal.returns-clause-put
returns-clause-put c = put_then c.text.ensures.put c.number.ensures.put
