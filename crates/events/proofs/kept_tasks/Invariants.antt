-- `events::kept_tasks` meets its contract: what is kept for the first e events is right. Assumes nothing.
use mathlib.Core.Path.{◌≡◌}
use Prim.Native.Nat.{ℕ, ◌<◌}
use lib.ListN.{length, get_or}
use Rattle.model.specs.Recording.{event_in}
use Rattle.model.specs.File.{events_of}
use Rattle.events.proofs.kept_tasks.Given as goal

abbrev pub invariant-loop-e : goal.invariant-loop-e
invariant-loop-e l =
    record {
      wide : length l.tasks ≡ 1024;
      kept : (i : ℕ) → i < l.e → get_or l.tasks i 0 ≡ (event_in (events_of l.records) i).task;
    }
