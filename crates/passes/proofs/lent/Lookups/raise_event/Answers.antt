-- raise_event meets its contract.
-- Assumes nothing.
use mathlib.Core.Path.{◌∙◌}
use Rattle.vectors.proofs.Rising.{rose_then}
use Rattle.model.proofs.Levels.{step_one_levels}
use Rattle.passes.proofs.Waits.{event_raised}
use Rattle.passes.specs.Lookups.{recording_of}
use Rattle.passes.proofs.lent.Lookups.raise_event.Goals as goal

pub returns : goal.returns
returns c =
    let a = c.args in
    let x = c.step_one-x in
    let y = c.step_two-y in
    record { becomes = event_raised (recording_of a.self.now) _ _ _ a.e (x.ensures.becomes ∙ step_one_levels a.self.now.records.now a.self.now.counts a.self.now.levels.now _ a.e) y.ensures.becomes; rose = rose_then x.ensures.rose y.ensures.rose }
