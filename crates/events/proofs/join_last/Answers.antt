-- `events::join_last` meets its contract: the events of the bytes before the join are those before it, and the last event is among
-- them. Assumes nothing.
use mathlib.Core.Path.{◌≡◌, sym, ap, ◌∙◌}
use mathlib.Core.List.{List}
use Prim.Native.Nat.{◌<◌}
use native.Mathlib.Omega.{arith}
use lib.ListN.{length}
use Rattle.model.specs.declared.Event.{Event}
use Rattle.model.specs.Recording.{event_in, of_task}
use Rattle.model.specs.File.{events_of}
use Rattle.model.specs.Passes.{last_event}
use Rattle.model.proofs.Tests.{both, eq-eqb}
use Rattle.model.proofs.LastEvent.{cut_at_join}
use Rattle.events.proofs.Laws.{events_length, events_take}
use Rattle.events.proofs.Kept.{all_below, of_join_lem}
use Rattle.events.proofs.join_last.Goals as goal

-- the part ends at the join
pub returns : goal.returns
returns c =
    let v = c.event_at-j in
    let records = c.args.records.now in
    let l = events_of records in
    let e = c.args.e in
    let j = c.if-j-ne-JOIN.false in
    let t = v.result.object in
    let h : e < length l = omega (arith, events_length records) in
    let f : c.last_event-look.result.last ≡ last_event l (event_in l e).object =
    c.last_event-look.ensures.last_value
    ∙ ap (λ (m : List Event). last_event m t) (events_take records e (omega arith))
    ∙ sym (cut_at_join l c.requires.0 t e h (both (eq-eqb _ _ (sym (ap (λ (w : Event). w.kind) v.ensures) ∙ j)) (eq-eqb _ _ (sym (ap (λ (w : Event). w.object) v.ensures)))))
    ∙ ap (λ (w : Event). last_event l w.object) v.ensures in
    (f ∙ of_join_lem l e v.result _ v.ensures j, all_below records (λ a. of_task (event_in l e).object (event_in l a)) _ f)
