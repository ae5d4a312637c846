-- `printing::output::Output::number` ends: the number falls to its tenth part. Assumes nothing.
use Rattle.printing.proofs.output.Output.+number.Given as goal

abbrev pub decreases-number : goal.decreases-number
decreases-number l = l.n
