-- at_position meets its contract. The invariant: the last among the first i events is the last of all. Assumes nothing.
use mathlib.Core.Path.{◌≡◌}
use mathlib.Core.Bool.{Bool, ◌&&◌}
use mathlib.Core.List.{List}
use Prim.Native.Nat.{ℕ}
use lib.Dec.{eqb}
use Rattle.model.specs.Numbers.{last_of}
use Rattle.model.specs.Recording.{of_task, event_in}
use Rattle.model.specs.File.{events_of}
use Rattle.model.specs.Vectors.{position}
use Rattle.model.specs.Together.{at_position}
use Rattle.stretches.proofs.EventPositions.at_position.Given as goal

-- the test
abbrev pub there : List ℕ → ℕ → ℕ → ℕ → Bool
there s t p e = of_task t (event_in (events_of s) e) && eqb (position (events_of s) e) p

abbrev pub invariant-loop-i : goal.invariant-loop-i
invariant-loop-i l =
    last_of (there l.self.records.now l.task l.at) l.i ≡ at_position (events_of l.self.records.now) l.task l.at
