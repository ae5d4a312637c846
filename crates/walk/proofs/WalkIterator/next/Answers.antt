-- A walk as an iterator yields the records from the next one on. Assumes nothing.
use Rattle.std.proofs.Common.{rules}
use Rattle.walk.proofs.Left.{yields, nearer}
use Rattle.walk.proofs.WalkIterator.next.Goals as goal

pub returns-clause-steps : goal.returns-clause-steps
returns-clause-steps c =
    let w = c.args.self.now in rw (c.next.ensures.0, c.next.ensures.1, c.next.ensures.2) (yields w.records.now w.next)

pub returns-clause-goes : goal.returns-clause-goes
returns-clause-goes c =
    let w = c.args.self.now in
    record { on = λ f. rw (c.next.ensures.0, c.next.ensures.1, c.next.ensures.2) (nearer w.records.now w.next); keeps = search rules; rests = search rules }
