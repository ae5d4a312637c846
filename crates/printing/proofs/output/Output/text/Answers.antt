-- `printing::output::Output::text` meets its contract. Assumes nothing.
use mathlib.Core.Path.{◌∙◌}
use native.Mathlib.Omega.{arith}
use Rattle.printing.proofs.Putting.{put_next}
use Rattle.printing.proofs.output.Output.text.Goals as goal

pub loop-byte-preserved : goal.loop-byte-preserved
loop-byte-preserved c = record {
  put = put_next _ _ (omega arith) c.loop-byte.invariant.put c.byte.ensures.put;
  same_output = c.byte.ensures.same_output ∙ c.loop-byte.invariant.same_output;
}
