-- is_stretch meets its contract. Assumes nothing.
use mathlib.Core.Path.{ap, ◌∙◌}
use Rattle.std.specs.Prelude.{is_some}
use Rattle.work.specs.Ready.{recording_of}
use Rattle.stretches.proofs.Answers.{stretch_found}
use Rattle.stretches.proofs.is_stretch.Goals as goal

pub returns : goal.returns
returns c =
    let a = c.args in
    stretch_found (recording_of a.ready.now) a.s _ (c.is_some.ensures ∙ ap is_some c.at_position-last.ensures.0)
