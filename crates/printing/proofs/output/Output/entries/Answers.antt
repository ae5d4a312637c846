-- `printing::output::Output::entries` meets its contract. Assumes nothing.
use mathlib.Core.Path.{refl, ◌∙◌}
use Rattle.printing.proofs.Putting.{put_nothing}
use Rattle.printing.proofs.Listing.{none, put_more}
use Rattle.printing.proofs.output.Output.entries.Goals as goal

pub loop-i-init : goal.loop-i-init
loop-i-init c =
    record { put = rw none (put_nothing _ _ c.args.self.now.within); same_output = refl }

pub loop-i-preserved : goal.loop-i-preserved
loop-i-preserved c = record {
  put = put_more _ _ c.loop-i.invariant.put c.nth.ensures.put;
  same_output = c.nth.ensures.same_output ∙ c.loop-i.invariant.same_output;
}
