-- start meets its contract: over the zeros that are left, the later rows give the whole.
-- Assumes nothing.
use mathlib.Core.Path.{◌≡◌}
use mathlib.Core.List.{[]}
use Prim.Native.Nat.{◌+◌}
use lib.ListN.{length}
use lib.Seq.{sets}
use Rattle.model.specs.File.{recording_by}
use Rattle.model.specs.Vectors.{flat, start}
use Rattle.vectors.specs.Rows.{Zeros}
use Rattle.passes.proofs.Starts.{rows_from}
use Rattle.passes.proofs.lent.Lookups.start.Given as goal

abbrev pub invariant-loop-e : goal.invariant-loop-e
invariant-loop-e l =
    (sets l.v l.from (rows_from (recording_by l.self.records.now l.self.counts []) l.e) ≡ flat (start (recording_by l.self.records.now l.self.counts [])))
    × (l.from + length (rows_from (recording_by l.self.records.now l.self.counts []) l.e) ≡ length l.initial.v)
    × Zeros l.from l.v
