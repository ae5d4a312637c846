-- `fennrolka::look` meets its contract: an accepted file's events are those of its records' part. Assumes nothing.
use native.Mathlib.Omega.{arith}
use Rattle.std.specs.Prelude.{Ok}
use mathlib.Core.Path.{◌≡◌, sym, ◌∙◌}
use Rattle.model.specs.Reading.{reading_of}
use Rattle.model.proofs.Checks.{handed_on}
use Rattle.recording.proofs.Files.{within}
use Rattle.fennrolka.specs.Looking.{looked_of}
use Rattle.fennrolka.proofs.Looking.{of_accepted}
use Rattle.fennrolka.proofs.look.Goals as goal

pub records_of-requires : goal.records_of-requires
records_of-requires c =
    let accepted : reading_of c.args.file.now ≡ Ok c.in_ok-h.h = sym c.read.ensures ∙ c.in_ok-h.was in
    omega (arith, within _ _ accepted)

pub returns : goal.returns
returns c =
    let accepted : reading_of c.args.file.now ≡ Ok c.in_ok-h.h = sym c.read.ensures ∙ c.in_ok-h.was in
    c.look_in.ensures ∙ of_accepted _ _ accepted _ c.records_of.ensures _

pub returns-in_err-h : goal.returns-in_err-h
unfolding looked_of
returns-in_err-h c =
    handed_on _ _ c.from_residual.ensures ∙ rw (sym c.read.ensures ∙ c.in_err-h.was)
