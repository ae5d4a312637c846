-- `printing::output::Output::nth` meets its contract. Assumes nothing.
use mathlib.Core.Path.{sym}
use Rattle.model.specs.Report.{entry_text}
use Rattle.printing.specs.Entries.{nth_line}
use Rattle.printing.proofs.output.Output.nth.Goals as goal

pub returns-clause-put : goal.returns-clause-put
unfolding nth_line entry_text
returns-clause-put c =
    rw (sym c.cell_of-cell.ensures) c.entry.ensures.put
