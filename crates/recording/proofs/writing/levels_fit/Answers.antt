-- `recording::writing::levels_fit` meets its contract: both numbers are compared. Assumes nothing.
use Rattle.model.specs.Writing.{levels_fit}
use Rattle.recording.proofs.writing.levels_fit.Goals as goal

pub returns : goal.returns
unfolding levels_fit
returns c =
    rw (← c.start_count-semaphores.ensures.0, ← c.flags-flags.ensures)
