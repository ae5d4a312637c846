-- `recording::reading::counts_of` meets its contract. A file that is too short for a trailer has none. Assumes nothing.
use native.Mathlib.Omega.{arith}
use mathlib.Core.Path.{ap}
use Rattle.model.specs.declared.Trailer.{Trailer}
use Rattle.recording.proofs.reading.counts_of.Goals as goal

pub returns-then-file-lt16 : goal.returns-then-file-lt16
returns-then-file-lt16 c long =
    absurd (omega (arith, c.if-file-lt16.true))

pub returns : goal.returns
returns c long =
    ap (λ (h : Trailer). h.counts) c.trailer_of-h.ensures.0
