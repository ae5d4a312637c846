-- `rules::first_fault` meets its contract. The invariant: none of the first i records is faulty, and the running counts are theirs. Assumes nothing.
use mathlib.Core.Path.{◌≡◌}
use Rattle.std.specs.Prelude.{Ok}
use lib.ListN.{take}
use Rattle.model.specs.Recording.{first_fault}
use Rattle.model.specs.File.{events_of, recording_by}
use Rattle.rules.specs.Running.{Running}
use Rattle.rules.proofs.first_fault.Given as goal

abbrev pub invariant-loop-i : goal.invariant-loop-i
invariant-loop-i l =
    record {
      passed : (Ok tt) ≡ first_fault (recording_by l.records l.fn.counts l.levels) l.i;
      running : Running (take l.i (events_of l.records)) l.checking.on l.checking.own;
      counts_kept : l.checking.counts ≡ l.fn.counts;
      levels_kept : l.checking.levels.now ≡ l.levels;
    }
