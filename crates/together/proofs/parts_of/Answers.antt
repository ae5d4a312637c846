-- parts_of meets its contract. Assumes nothing.
use mathlib.Core.Path.{◌≡◌, sym, subst, ◌∙◌}
use Rattle.std.specs.Prelude.{Ok}
use Rattle.model.specs.declared.Trailer.{Trailer}
use Rattle.model.specs.Reading.{reading_of}
use Rattle.model.proofs.Checks.{handed_on}
use Rattle.recording.proofs.Files.{accepted_is, refused_is}
use Rattle.work.proofs.Accepted.{levels_inside, parts_ready, parts_recording}
use Rattle.together.proofs.parts_of.Goals as goal

pub of-requires : goal.of-requires
of-requires c =
    levels_inside _ _ (sym c.read.ensures ∙ c.in_ok-trailer.was)

pub returns : goal.returns
returns c =
    let read = sym c.read.ensures ∙ c.in_ok-trailer.was in
    let p = c.of.ensures in
    record {
      read = subst (λ (h : Trailer). reading_of c.args.file.now ≡ Ok h) (accepted_is _ _ read).0 read;
      ready = parts_ready _ _ read _ p.records_value _ p.counts_value _ p.levels_value;
      recording = parts_recording _ _ read _ p.records_value _ p.counts_value _ p.levels_value;
    }

pub returns-in_err-trailer : goal.returns-in_err-trailer
returns-in_err-trailer c =
    rw (handed_on _ _ c.from_residual.ensures) (refused_is _ _ (sym c.read.ensures ∙ c.in_err-trailer.was))
