-- `printing::output::Output::answer` meets its contract: the first line and those of the entries, or the refusal's. Assumes nothing.
use Rattle.printing.specs.Answer.{answer_text}
use Rattle.printing.proofs.Putting.{put_then}
use Rattle.printing.proofs.output.Output.answer.Goals as goal

pub returns-in-Ok-clause-put : goal.returns-in-Ok-clause-put
unfolding answer_text
returns-in-Ok-clause-put c =
    rw c.in-Ok.is (put_then c.result.ensures.put c.entries.ensures.put)

pub returns-in-Err-clause-put : goal.returns-in-Err-clause-put
unfolding answer_text
returns-in-Err-clause-put c =
    rw c.in-Err.is c.refusal.ensures.put
