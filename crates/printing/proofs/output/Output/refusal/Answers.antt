-- `printing::output::Output::refusal` meets its contract: its parts are put one after another. Assumes nothing.
use mathlib.Core.Path.{sym}
use Rattle.model.specs.Text.{bytes}
use Rattle.model.specs.Report.{field, refusal_line}
use Rattle.printing.proofs.Putting.{put_then}
use Rattle.printing.proofs.output.Output.refusal.Goals as goal

pub returns-clause-put : goal.returns-clause-put
unfolding bytes field refusal_line
returns-clause-put c =
    rw (sym c.number.ensures, sym c.record.ensures) (put_then (put_then c.field.ensures.put c.field-2.ensures.put) c.text.ensures.put)
