-- `events::last_event` meets its contract. The invariant: the last among the records that are left is the last of the part, and those behind them are read. Assumes nothing.
use mathlib.Core.Path.{◌≡◌}
use Prim.Native.Nat.{◌+◌, ◌/◌}
use lib.ListN.{length}
use Rattle.model.specs.Numbers.{last_of}
use Rattle.model.specs.Recording.{of_task, event_in}
use Rattle.model.specs.Passes.{last_event}
use Rattle.model.specs.File.{events_of}
use Rattle.events.proofs.last_event.Given as goal

abbrev pub invariant-loop-e : goal.invariant-loop-e
invariant-loop-e l =
    (l.e + l.read ≡ length l.part / 4) × (last_of (λ a. of_task l.task (event_in (events_of l.part) a)) l.e ≡ last_event (events_of l.part) l.task)
