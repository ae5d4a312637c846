-- `events::kept_forks` meets its contract: kept are the last forks among the first e events. Assumes nothing.
use mathlib.Core.Path.{◌≡◌}
use lib.ListN.{length}
use Rattle.model.specs.File.{events_of}
use Rattle.events.specs.Kept.{ForksTo}
use Rattle.events.proofs.kept_forks.Given as goal

abbrev pub invariant-loop-e : goal.invariant-loop-e
invariant-loop-e l =
    record { wide : length l.forks ≡ 256; kept : ForksTo (events_of l.records) l.e l.forks }
