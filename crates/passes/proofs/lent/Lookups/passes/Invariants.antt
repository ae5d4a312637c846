-- passes meets its contract: so far as many passes were made as are counted, and none of them was quiet.
-- Assumes nothing.
use mathlib.Core.Path.{◌≡◌}
use Prim.Native.Nat.{◌+◌, ◌*◌}
use Rattle.passes.specs.Stamps.{Known}
use Rattle.passes.proofs.Runs.{Made}
use Rattle.passes.specs.Lookups.{recording_of, vectors_over}
use Rattle.passes.proofs.lent.Lookups.passes.Given as goal

abbrev pub invariant-loop-made : goal.invariant-loop-made
invariant-loop-made l =
    Made (recording_of l.self) l.made (vectors_over l.self l.v)
    × (l.base ≡ 1024 * l.made + 1024)
    × Known (recording_of l.self) (vectors_over l.self l.v) l.self.sources.now l.when l.base 0
