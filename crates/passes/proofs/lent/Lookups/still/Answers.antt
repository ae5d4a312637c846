-- still meets its contract. Assumes nothing.
use Rattle.passes.specs.Stamps.{still}
use Rattle.passes.proofs.lent.Lookups.still.Goals as goal

pub returns : goal.returns
unfolding still
returns c =
    rw (c.served_at-served.ensures.0, c.event_at.ensures)
