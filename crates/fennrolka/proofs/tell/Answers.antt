-- `fennrolka::tell` meets its contract: it copies the lesser of the two lengths. Assumes nothing.
use Rattle.fennrolka.proofs.Laying.{laid_front}
use Rattle.fennrolka.proofs.tell.Goals as goal

pub returns : goal.returns
returns c =
    laid_front _ _ _ _ c.min-n.ensures c.copy_from_slice.ensures.after
