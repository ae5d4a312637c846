-- gather meets its contract: to write the numbers that are left over what is there gives them all.
-- Assumes nothing.
use mathlib.Core.Path.{sym, ◌∙◌}
use native.Mathlib.Omega.{arith}
use lib.ListN.{length}
use Rattle.vectors.specs.Rows.{column}
use Rattle.vectors.proofs.Chunks.{column_length, column_at}
use Rattle.model.proofs.Stores.{sets_front}
use Rattle.vectors.proofs.Stores.{sets_next, sets_all}
use Rattle.vectors.proofs.gather.Goals as goal

pub loop-i-preserved : goal.loop-i-preserved
loop-i-preserved c =
    let a = c.args in
    let k = c.loop-i in
    let es = a.events.now in
    let col = column_length a.tasks a.v.now a.t es in
    let x = c.number.ensures ∙ sym (column_at a.tasks a.v.now a.t es k.i (omega arith)) in
    sets_next k.out (column a.tasks a.v.now a.t es) k.i k.i _ (omega arith) x ∙ k.invariant

pub returns : goal.returns
returns c =
    let a = c.args in
    let k = c.loop-i in
    let es = a.events.now in
    let col = column_length a.tasks a.v.now a.t es in
    sym (sets_all k.out (column a.tasks a.v.now a.t es) k.i k.i (omega arith))
    ∙ k.invariant
    ∙ sets_front a.out.now (column a.tasks a.v.now a.t es) (length es) col (omega arith)
