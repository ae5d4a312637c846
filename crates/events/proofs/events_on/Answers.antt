-- `events::events_on` meets its contract: the chain of a slot leads from each of its events to the next. Assumes nothing.
use mathlib.Core.Path.{◌∙◌}
use Rattle.events.specs.Chains.{on_at}
use Rattle.events.proofs.Laws.{events_length}
use Rattle.events.proofs.Links.{all_rising, all_picked}
use Rattle.events.proofs.events_on.Goals as goal

pub from-requires-clause-up : goal.from-requires-clause-up
from-requires-clause-up c =
    let a = c.args in
    let g = c.requires.0.each a.kind a.x c.requires.2 in
    rw (c.slot_of-slot.ensures.0, ← events_length a.records.now) (all_rising _ _ (on_at a.records.now a.kind a.x) g.next _ g.first.hit)

pub returns : goal.returns
returns c =
    let a = c.args in
    let g = c.requires.0.each a.kind a.x c.requires.2 in
    c.from.ensures ∙ rw (c.slot_of-slot.ensures.0, ← events_length a.records.now) (all_picked _ _ (on_at a.records.now a.kind a.x) g.next _ g.first)
