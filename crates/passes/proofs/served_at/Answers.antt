-- served_at meets its contract. Assumes nothing.
use native.Mathlib.Omega.{arith}
use Rattle.model.specs.Recording.{wait, flag_wait}
use Rattle.model.proofs.Tests.{eq-eqb, ne_eqb}
use Rattle.passes.specs.Stamps.{served_at}
use Rattle.passes.proofs.served_at.Goals as goal

pub returns-then-v-eq-WAIT : goal.returns-then-v-eq-WAIT
unfolding served_at
returns-then-v-eq-WAIT c =
    (rw (eq-eqb _ wait c.if-v-eq-WAIT.true, c.slot_of.ensures.0), omega arith)

pub returns-then-v-eq-FLAG_WAIT : goal.returns-then-v-eq-FLAG_WAIT
unfolding served_at
returns-then-v-eq-FLAG_WAIT c =
    (rw (ne_eqb _ wait c.if-v-eq-WAIT.false, eq-eqb _ flag_wait c.if-v-eq-FLAG_WAIT.true, c.slot_of-then-v-eq-FLAG_WAIT.ensures.0), omega arith)

pub returns : goal.returns
unfolding served_at
returns c =
    (rw (ne_eqb _ wait c.if-v-eq-WAIT.false, ne_eqb _ flag_wait c.if-v-eq-FLAG_WAIT.false), omega arith)
