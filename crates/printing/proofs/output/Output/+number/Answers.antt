-- `printing::output::Output::number` meets its contract: one digit is put, or the digits of the tenth part and then the last. Assumes nothing.
use native.Mathlib.Omega.{arith}
use Rattle.printing.proofs.Decimal.{decimal_digit, decimal_more}
use Rattle.printing.proofs.Putting.{put_then}
use Rattle.printing.proofs.output.Output.+number.Goals.{then-n-ge10, else-n-ge10}
use Rattle.printing.proofs.output.Output.+number.Goals as goal

pub returns-clause-put : goal.returns-clause-put
returns-clause-put t c = elim c.if-n-ge10.branch [
  | then-n-ge10 w ↦ let last = rw w.self-is at c.byte.ensures.put in rw (decimal_more c.args.n (omega arith) (omega arith)) (put_then w.number.ensures.put last)
  | else-n-ge10 w ↦ let last = rw w.self-is at c.byte.ensures.put in rw (decimal_digit c.args.n (omega arith)) last
]
