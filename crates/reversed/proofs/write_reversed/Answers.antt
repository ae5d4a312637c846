-- write_reversed meets its contract: of an accepted file the order is written, another's refusal is handed on. Assumes nothing.
use mathlib.Core.Path.{sym, ◌∙◌}
use Rattle.model.proofs.Checks.{handed_on}
use Rattle.recording.proofs.Files.{refused_is}
use Rattle.work.proofs.Questions.{question_file}
use Rattle.reversed.proofs.Answers.{refused_question}
use Rattle.reversed.proofs.write_reversed.Goals as goal

pub returns-in_err-trailer : goal.returns-in_err-trailer
returns-in_err-trailer c =
    let r = refused_question _ _ _ _ _ _ (question_file _ _ _ _ _ (refused_is _ _ (sym c.read.ensures ∙ c.in_err-trailer.was))) in
    record { value = handed_on _ _ c.from_residual.ensures ∙ r.answer; work_after = r.work; out_after = r.out }
