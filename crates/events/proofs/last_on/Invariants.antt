-- `events::last_on` meets its contract. The invariant: the last among the first i events is the last among all n. Assumes nothing.
use mathlib.Core.Path.{◌≡◌}
use Rattle.model.specs.Numbers.{last_of}
use Rattle.model.specs.Recording.{is_on, event_in}
use Rattle.model.specs.File.{events_of}
use Rattle.events.proofs.last_on.Given as goal

abbrev pub invariant-loop-i : goal.invariant-loop-i
invariant-loop-i l =
    last_of (λ a. is_on l.kind l.object (event_in (events_of l.records) a)) l.i ≡ last_of (λ a. is_on l.kind l.object (event_in (events_of l.records) a)) l.n
