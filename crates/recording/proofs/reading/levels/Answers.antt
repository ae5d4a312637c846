-- `recording::reading::levels` meets its contract. An accepted file's level bytes lie within it. Assumes nothing.
use native.Mathlib.Omega.{arith}
use Rattle.std.specs.Prelude.{Ok}
use mathlib.Core.Path.{◌≡◌, sym, ◌∙◌}
use Rattle.model.specs.Reading.{reading_of}
use Rattle.recording.proofs.Files.{within, the_levels, no_levels}
use Rattle.recording.proofs.reading.levels.Goals as goal

pub levels_of-requires : goal.levels_of-requires
levels_of-requires c =
    let accepted : reading_of c.args.file.now ≡ Ok c.in-Ok.h = sym c.read.ensures ∙ c.in-Ok.is in
    omega (arith, within _ _ accepted)

pub returns-in-Ok : goal.returns-in-Ok
returns-in-Ok c =
    let accepted : reading_of c.args.file.now ≡ Ok c.in-Ok.h = sym c.read.ensures ∙ c.in-Ok.is in
    c.levels_of.ensures ∙ the_levels _ _ accepted

pub returns-in-Err : goal.returns-in-Err
returns-in-Err c =
    no_levels _ _ (sym c.read.ensures ∙ c.in-Err.is)
