-- `alike::tasks_alike` meets its contract. The invariant: the tasks below `task` are alike. Assumes nothing.
use mathlib.Core.Path.{◌≡◌}
use Rattle.std.specs.Prelude.{Ok}
use Rattle.model.specs.File.{events_of}
use Rattle.model.specs.Together.{tasks_alike}
use Rattle.alike.proofs.tasks_alike.Given as goal

abbrev pub invariant-loop-task : goal.invariant-loop-task
invariant-loop-task l =
    Ok tt ≡ tasks_alike (events_of l.first) (events_of l.second) l.task
