-- candidates meets its contract: in the walk those picked so far are in front, and behind them is what was there.
-- Assumes nothing.
use mathlib.Core.Path.{◌≡◌}
use mathlib.Core.Bool.{not}
use mathlib.Core.List.{◌++◌}
use lib.ListN.{length, drop}
use Rattle.model.specs.Numbers.{filter}
use Rattle.model.specs.File.{events_of}
use Rattle.model.specs.Vectors.{ordered}
use Rattle.passes.specs.Lookups.{vectors_over}
use Rattle.passes.proofs.lent.Lookups.candidates.Given as goal

abbrev pub invariant-loop-a : goal.invariant-loop-a
invariant-loop-a l =
    let kept = filter (λ a. not (ordered (events_of l.self.records.now) (vectors_over l.self l.v) l.e a)) l.yielded in
    record { c_is : l.c ≡ length kept; out_is : l.out ≡ kept ++ drop l.c l.initial.out }
