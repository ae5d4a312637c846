-- analyse meets its contract: an accepted file is analysed, another's refusal is handed on. Assumes nothing.
use mathlib.Core.Path.{sym, ◌∙◌}
use Rattle.model.proofs.Checks.{handed_on}
use Rattle.recording.proofs.Files.{refused_is}
use Rattle.analysis.proofs.Answers.{refused_file}
use Rattle.analysis.proofs.analyse.Goals as goal

pub returns-in_err-trailer : goal.returns-in_err-trailer
returns-in_err-trailer c =
    let r = refused_file _ _ _ _ _ (refused_is _ _ (sym c.read.ensures ∙ c.in_err-trailer.was)) in
    record { value = handed_on _ _ c.from_residual.ensures ∙ r.answer; work_after = r.work; list_after = r.list }
