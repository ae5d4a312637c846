-- `events::positions` meets its contract: the running counts are those of the first e events, and what is kept for these is right.
-- Assumes nothing.
use mathlib.Core.Path.{◌≡◌}
use Prim.Native.Nat.{ℕ, ◌<◌}
use lib.ListN.{length, get_or}
use Rattle.model.specs.File.{events_of}
use Rattle.model.specs.Vectors.{position}
use Rattle.events.specs.Running.{Running}
use Rattle.events.proofs.positions.Given as goal

abbrev pub invariant-loop-e : goal.invariant-loop-e
invariant-loop-e l =
    record {
      wide : length l.positions ≡ 1024;
      counted : Running l.records l.e l.own;
      placed : (i : ℕ) → i < l.e → get_or l.positions i 0 ≡ position (events_of l.records) i;
    }
