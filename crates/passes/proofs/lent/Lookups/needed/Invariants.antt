-- needed meets its contract: in the walk along the waits k is 1 plus those counted so far; then it is lowered.
-- Assumes nothing.
use mathlib.Core.Path.{◌≡◌}
use Prim.Native.Nat.{suc}
use Rattle.model.specs.Numbers.{count}
use Rattle.model.specs.File.{events_of}
use Rattle.model.specs.Vectors.{ordered}
use Rattle.passes.specs.Lookups.{vectors_over}
use Rattle.passes.proofs.lent.Lookups.needed.Given as goal

abbrev pub invariant-loop-w : goal.invariant-loop-w
invariant-loop-w l =
    l.k ≡ suc (count (λ w. ordered (events_of l.self.records.now) (vectors_over l.self l.v) w l.e) l.yielded)
