-- `printing::output::Output::entry` meets its contract: its parts are put one after another. Assumes nothing.
use Rattle.model.specs.Text.{bytes}
use Rattle.model.specs.Report.{field, entry_line}
use Rattle.printing.proofs.Putting.{put_then}
use Rattle.printing.proofs.output.Output.entry.Goals as goal

pub returns-clause-put : goal.returns-clause-put
unfolding bytes field entry_line
returns-clause-put c =
    put_then (put_then (put_then (put_then (put_then c.field.ensures.put c.field-2.ensures.put) c.field-3.ensures.put) c.text.ensures.put) c.mark.ensures.put) c.text-2.ensures.put
