-- `alike::same_levels` meets its contract. The invariant: the first i level bytes are the same. Assumes nothing.
use mathlib.Core.Path.{◌≡◌}
use mathlib.Core.Bool.{true}
use Rattle.model.specs.Together.{same_levels}
use Rattle.alike.proofs.same_levels.Given as goal

abbrev pub invariant-loop-i : goal.invariant-loop-i
invariant-loop-i l =
    same_levels l.first l.second l.i ≡ true
