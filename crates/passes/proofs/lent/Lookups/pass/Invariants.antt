-- pass meets its contract: the events below e have had their turn.
-- Assumes nothing.
use mathlib.Core.Path.{◌≡◌}
use Rattle.model.specs.Passes.{pass_to}
use Rattle.vectors.specs.Rows.{Rose}
use Rattle.passes.specs.Stamps.{Known}
use Rattle.passes.specs.Lookups.{recording_of, vectors_over}
use Rattle.passes.proofs.lent.Lookups.pass.Given as goal

abbrev pub invariant-loop-e : goal.invariant-loop-e
invariant-loop-e l =
    (vectors_over l.self l.v ≡ pass_to (recording_of l.self) (vectors_over l.self l.initial.v) l.e)
    × Rose l.initial.v l.v l.changed
    × Known (recording_of l.self) (vectors_over l.self l.v) l.self.sources.now l.when l.base l.e
