-- `events::last_event` meets its contract. The invariant: the last among the records that are left is the last of the part, and those behind them are read. Assumes nothing.
use mathlib.Core.Path.{sym, ap, ◌∙◌}
use native.Mathlib.Omega.{arith}
use Rattle.model.specs.Numbers.{last_of}
use Rattle.model.specs.File.{events_of}
use Rattle.events.proofs.Laws.{events_length, last_none, last_here, last_lower, read_to}
use Rattle.events.proofs.last_event.Goals as goal

pub loop-e-init : goal.loop-e-init
loop-e-init c =
    (omega arith, ap (last_of _) (sym (events_length c.args.part.now)))

pub returns-then-is_of_task : goal.returns-then-is_of_task
returns-then-is_of_task c =
    let k = c.loop-e in
    let a = c.args in
    let hit = last_here _ k.e _ _ (omega arith) c.is_of_task.ensures c.if-is_of_task.true ∙ k.invariant.1 in
    record { last_value = hit; read_value = omega (arith, read_to (events_of a.part.now) a.task _ hit, events_length a.part.now) }

pub loop-e-preserved : goal.loop-e-preserved
loop-e-preserved c =
    let k = c.loop-e in
    (omega arith, last_lower _ k.e _ _ (omega arith) c.is_of_task.ensures c.if-is_of_task.false ∙ k.invariant.1)

pub returns : goal.returns
returns c =
    let k = c.loop-e in
    let a = c.args in
    let none = last_none _ k.e (omega arith) ∙ k.invariant.1 in
    record { last_value = none; read_value = omega (arith, read_to (events_of a.part.now) a.task _ none, events_length a.part.now) }
