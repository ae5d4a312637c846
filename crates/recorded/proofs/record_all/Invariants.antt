-- record_all meets its contract: the recorded vectors of the events below e have been made, and their waits matched.
-- Assumes nothing.
use mathlib.Core.Path.{◌≡◌}
use Rattle.model.specs.Recorded.{recorded_to}
use Rattle.passes.specs.Lookups.{recording_of, vectors_over, Fits}
use Rattle.recorded.specs.Matching.{MatchedTo}
use Rattle.recorded.proofs.record_all.Given as goal

abbrev pub invariant-loop-e : goal.invariant-loop-e
invariant-loop-e l =
    record {
      fitting : Fits l.look l.v;
      made : vectors_over l.look l.v ≡ recorded_to (recording_of l.look) l.e;
      matched : MatchedTo l.look l.e l.matches;
    }
