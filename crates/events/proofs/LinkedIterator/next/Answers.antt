-- `Linked` yields what its chain links: nothing at its end, else the number at hand, and then those that the link leads to. Assumes nothing.
use Rattle.std.proofs.Common.{rules, arith, ap, length, ℕ}
use Rattle.events.proofs.Links.{along_none, one_on}
use Rattle.events.proofs.LinkedIterator.next.Goals as goal

pub returns-then-self-e-clause-steps : goal.returns-then-self-e-clause-steps
returns-then-self-e-clause-steps c =
    let none = along_none c.args.self.now.links.now c.args.self.now.end c.args.self.now.end c.args.self.now.next c.if-self-e.true in (none, none)

pub invariant_of-self : goal.invariant_of-self
invariant_of-self c =
    let s = c.args.self.now in record { room = s.room; up = (one_on s.links.now s.end s.next c.if-self-e.false s.up).1 }

pub returns-clause-steps : goal.returns-clause-steps
returns-clause-steps c =
    let s = c.args.self.now in (one_on s.links.now s.end s.next c.if-self-e.false s.up).0

pub returns-clause-goes : goal.returns-clause-goes
returns-clause-goes c =
    let s = c.args.self.now in
    let e = ap (length {A = ℕ}) (one_on s.links.now s.end s.next c.if-self-e.false s.up).0 in
    record { on = λ f. (tt, tt, omega (arith, e)); keeps = search rules; rests = search rules }
