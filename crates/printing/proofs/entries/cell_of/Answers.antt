-- `printing::entries::cell_of` meets its contract: past the last event the object counts as 0. Assumes nothing.
use Rattle.printing.proofs.Listing.{object_past}
use Rattle.printing.proofs.entries.cell_of.Goals as goal

pub returns : goal.returns
returns c =
    object_past _ _ c.if-e-records.false
