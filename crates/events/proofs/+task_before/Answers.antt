-- `events::task_before` meets its contract. Assumes nothing.
use mathlib.Core.Path.{refl, sym, ◌∙◌}
use Prim.Native.Nat.{◌-◌}
use native.Mathlib.Omega.{arith}
use Rattle.model.proofs.Tests.{eq-eqb, ne_eqb}
use Rattle.events.proofs.Laws.{last_none, last_here, last_lower}
use Rattle.events.proofs.Kept.{at_number, no_number}
use Rattle.events.proofs.+task_before.Goals as goal

pub returns-then-n-eq0 : goal.returns-then-n-eq0
returns-then-n-eq0 t c = sym (no_number 1024 1024 (omega arith)) ∙ last_none _ _ c.if-n-eq0.true

pub returns-then-tasks-e : goal.returns-then-tasks-e
returns-then-tasks-e t c =
    let n = c.args.n in
    sym (at_number 1024 (n - 1) (omega arith)) ∙ last_here _ n (n - 1) _ (omega arith) refl (eq-eqb _ _ c.if-tasks-e.true)

pub returns : goal.returns
returns t c =
    let n = c.args.n in
    c.task_before.ensures ∙ last_lower _ n (n - 1) _ (omega arith) refl (ne_eqb _ _ c.if-tasks-e.false)
