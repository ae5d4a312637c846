-- compare meets its contract: the stretches of an accepted file are compared, another's refusal is handed on. Assumes nothing.
use mathlib.Core.Path.{sym, ◌∙◌}
use Rattle.model.proofs.Checks.{handed_on}
use Rattle.recording.proofs.Files.{refused_is}
use Rattle.stretches.proofs.Answers.{refused_file}
use Rattle.stretches.proofs.compare.Goals as goal

pub returns-in_err-trailer : goal.returns-in_err-trailer
returns-in_err-trailer c =
    let r = refused_file _ _ _ _ _ _ (refused_is _ _ (sym c.read.ensures ∙ c.in_err-trailer.was)) in
    record { value = handed_on _ _ c.from_residual.ensures ∙ r.0; work_after = r.1 }
