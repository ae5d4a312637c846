-- put_side meets its contract: put so far are the events of this side below a. Assumes nothing.
use mathlib.Core.Path.{◌≡◌}
use mathlib.Core.List.{◌++◌}
use Rattle.model.specs.Numbers.{picked}
use Rattle.reversed.specs.Lent.{on_side_by}
use Rattle.reversed.proofs.put_side.Given as goal

abbrev pub invariant-loop-a : goal.invariant-loop-a
invariant-loop-a l =
    l.order.items ≡ l.initial.order.items ++ picked (on_side_by l.vectors l.x l.first) l.a
