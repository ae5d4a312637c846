-- at_most meets its contract: n counts the numbers looked at.
-- Assumes nothing.
use Rattle.std.proofs.Common.{◌≡◌, ◌≤◌, take, count_by}
use lib.Dec.{leb}
use Rattle.vectors.proofs.at_most.Given as goal

abbrev pub invariant-loop-y : goal.invariant-loop-y
invariant-loop-y l =
    (l.n ≤ l.y-index) × (l.n ≡ count_by (λ y. leb y l.x) (take l.y-index l.s))
