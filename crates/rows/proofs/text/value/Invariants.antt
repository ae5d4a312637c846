-- Before the first digit the number is 0.
use Rattle.std.proofs.Common.{◌≡◌}
use Rattle.rows.proofs.text.value.Given as goal

abbrev pub invariant-loop-c : goal.invariant-loop-c
invariant-loop-c g l = l.c-index ≡ 0 → l.n ≡ 0
