-- start_event meets its contract: over zeros one number makes the row. Assumes nothing.
use mathlib.Core.Path.{ap, ap₂, ◌∙◌}
use Prim.Native.Nat.{ℕ, ◌<◌}
use lib.ListN.{get_or}
use lib.Seq.{sets}
use Rattle.model.specs.declared.Event.{Event}
use Rattle.vectors.specs.Rows.{own_row}
use Rattle.vectors.proofs.Filling.{row_written, zeros_behind}
use Rattle.passes.proofs.lent.Lookups.start_event.Goals as goal
use Rattle.passes.proofs.lent.Lookups.start_event.Goals.{After-event_at-own}

-- its own task is one of the recording's
inside : (t : After-event_at-own) → t.event_at-own.result.task < t.args.self.now.counts.tasks
inside t =
    rw t.event_at-own.ensures (t.args.self.now.prepared.placed.records.named t.args.e t.requires.e_bound.0)

pub returns-clause-v_after : goal.returns-clause-v_after
returns-clause-v_after c =
    let a = c.args in
    let own = c.event_at-own.result.task in
    let x = get_or a.self.now.positions.now a.e 0 in
    let row = row_written a.v.now a.from a.self.now.counts.tasks own x c.requires.e_bound.1 c.requires.zeros (inside (goal.at.returns-clause-v_after c).After-event_at-own) in
    row
    ∙ ap₂ (λ (o y : ℕ). sets a.v.now a.from (own_row a.self.now.counts.tasks o y)) (ap (λ (v : Event). v.task) c.event_at-own.ensures)
    (a.self.now.prepared.placed.kept.placed a.e c.requires.e_bound.0)

pub returns-clause-zeros_left : goal.returns-clause-zeros_left
returns-clause-zeros_left c =
    let a = c.args in
    zeros_behind a.v.now a.from a.self.now.counts.tasks c.event_at-own.result.task _ c.requires.e_bound.1 c.requires.zeros (inside (goal.at.returns-clause-zeros_left c).After-event_at-own)
