-- `recording::reading::preamble` meets its contract. An accepted file's start lies within it. Assumes nothing.
use native.Mathlib.Omega.{arith}
use mathlib.Core.Path.{sym, ◌∙◌}
use lib.Seq.{length-take-le}
use Rattle.recording.proofs.Files.{within, the_preamble, no_preamble}
use Rattle.recording.proofs.reading.preamble.Goals as goal

pub slice_bounds-result-end : goal.slice_bounds-result-end
slice_bounds-result-end c =
    let w = within _ _ (sym c.read.ensures ∙ c.in-Ok.is) in sym (length-take-le _ _ (omega arith))

pub returns-in-Ok : goal.returns-in-Ok
returns-in-Ok c =
    the_preamble _ _ (sym c.read.ensures ∙ c.in-Ok.is)

pub returns-in-Err : goal.returns-in-Err
returns-in-Err c =
    no_preamble _ _ (sym c.read.ensures ∙ c.in-Err.is)
