-- `recording::reading::records` meets its contract. An accepted file's records lie within it. Assumes nothing.
use native.Mathlib.Omega.{arith}
use Rattle.std.specs.Prelude.{Ok}
use mathlib.Core.Path.{◌≡◌, sym, ◌∙◌}
use Rattle.model.specs.Reading.{reading_of}
use Rattle.recording.proofs.Files.{within, the_records, no_records}
use Rattle.recording.proofs.reading.records.Goals as goal

pub records_of-requires : goal.records_of-requires
records_of-requires c =
    let accepted : reading_of c.args.file.now ≡ Ok c.in-Ok.h = sym c.read.ensures ∙ c.in-Ok.is in
    omega (arith, within _ _ accepted)

pub returns-in-Ok : goal.returns-in-Ok
returns-in-Ok c =
    let accepted : reading_of c.args.file.now ≡ Ok c.in-Ok.h = sym c.read.ensures ∙ c.in-Ok.is in
    c.records_of.ensures ∙ the_records _ _ accepted

pub returns-in-Err : goal.returns-in-Err
returns-in-Err c =
    no_records _ _ (sym c.read.ensures ∙ c.in-Err.is)
