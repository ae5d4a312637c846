-- `events::task_events` meets its contract: the chain of a task leads from each of its events to the next. Assumes nothing.
use mathlib.Core.Path.{refl, ◌∙◌}
use native.Mathlib.Omega.{arith}
use Rattle.events.specs.Chains.{by_task}
use Rattle.events.proofs.Order.{own_events_lem}
use Rattle.events.proofs.Links.{all_rising, all_picked}
use Rattle.events.proofs.task_events.Goals as goal

pub from-requires-clause-up : goal.from-requires-clause-up
from-requires-clause-up c =
    let a = c.args in
    all_rising _ _ (by_task a.records.now a.task) (λ e l h. c.requires.0.links e a.task (omega arith) l c.requires.2 h) _ (c.requires.0.heads a.task c.requires.2).hit

pub returns : goal.returns
returns c =
    let a = c.args in
    c.from.ensures
    ∙ all_picked _ _ (by_task a.records.now a.task) (λ e l h. c.requires.0.links e a.task (omega arith) l c.requires.2 h) _ (c.requires.0.heads a.task c.requires.2)
    ∙ own_events_lem a.records.now a.task _ refl
