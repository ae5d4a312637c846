-- `alike::records_alike` meets its contract. The invariant: what is left of the two walks, from the position at hand, gives the whole.
-- Assumes nothing.
use mathlib.Core.Path.{◌≡◌}
use mathlib.Core.List.{map}
use Prim.Native.Nat.{◌+◌, ◌≤◌, ◌<◌}
use lib.ListN.{length}
use Rattle.std.specs.List.{All}
use Rattle.model.specs.Recording.{event_in}
use Rattle.model.specs.File.{events_of}
use Rattle.model.specs.Together.{own_records, records_alike}
use Rattle.events.proofs.Links.{left}
use Rattle.alike.proofs.records_alike.Given as goal

abbrev pub invariant-loop-a : goal.invariant-loop-a
invariant-loop-a l =
    let one = events_of l.first in
    let other = events_of l.second in
    record {
      whole : records_alike l.task l.position (map (event_in one) (left l.a-iterator)) (map (event_in other) (left l.others)) ≡ records_alike l.task 1 (own_records one l.task) (own_records other l.task);
      here : All (λ e. e < length one) (left l.a-iterator);
      there : All (λ e. e < length other) (left l.others);
      few : l.position + length (left l.a-iterator) ≤ 1025;
    }
