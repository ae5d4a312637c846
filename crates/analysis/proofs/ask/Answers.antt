-- ask meets its contract: an accepted file is asked about, another's refusal is handed on. Assumes nothing.
use mathlib.Core.Path.{refl, sym, ◌∙◌}
use Rattle.model.proofs.Checks.{handed_on}
use Rattle.recording.proofs.Files.{refused_is}
use Rattle.work.proofs.Questions.{question_file}
use Rattle.analysis.proofs.Answers.{by_question}
use Rattle.analysis.proofs.ask.Goals as goal

pub returns-in_err-trailer : goal.returns-in_err-trailer
returns-in_err-trailer c =
    let r = by_question _ _ _ _ _ _ (question_file _ _ _ _ _ (refused_is _ _ (sym c.read.ensures ∙ c.in_err-trailer.was))) _ _ refl refl in
    record { value = handed_on _ _ c.from_residual.ensures ∙ r.answer; work_after = r.work }
