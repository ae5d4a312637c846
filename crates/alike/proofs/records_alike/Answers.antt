-- `alike::records_alike` meets its contract. The invariant: what is left of the two walks, from the position at hand, gives the whole.
-- Assumes nothing.
use mathlib.Core.Path.{sym, ap, ap₂, ◌∙◌}
use Prim.Native.Nat.{ℕ, ◌<◌}
use native.Mathlib.Omega.{arith}
use lib.ListN.{length}
use Rattle.model.specs.Recording.{event_in}
use Rattle.model.specs.File.{events_of}
use Rattle.model.specs.Together.{same_record}
use Rattle.events.proofs.Laws.{events_length}
use Rattle.events.proofs.Links.{left}
use Rattle.alike.proofs.Left.{both_end, first_ends, second_ends, differ, same_here, own_inside, own_few, first_and_others}
use Rattle.alike.proofs.records_alike.Goals as goal

pub loop-a-init : goal.loop-a-init
loop-a-init c =
    let a = c.args in
    let one = ap left c.into_iter-a-iterator.ensures.into_iter_gives ∙ c.task_events-a-items.ensures in
    record {
      whole = rw (one, c.task_events-others.ensures);
      here = rw one (own_inside (events_of a.first.now) a.task);
      there = rw c.task_events-others.ensures (own_inside (events_of a.second.now) a.task);
      few = rw one (omega (arith, own_few (events_of a.first.now) a.task, events_length a.first.now, c.requires.0.few));
    }

pub returns-in_default : goal.returns-in_default
returns-in_default c =
    second_ends (event_in (events_of c.args.first.now)) (event_in (events_of c.args.second.now)) _ _ _ _ _ _ c.in-Some.ensures.steps c.in_default.ensures.steps.0 ∙ c.loop-a.invariant.whole

pub event_at-requires : goal.event_at-requires
event_at-requires c =
    let h = first_and_others (λ (e : ℕ). e < length (events_of c.args.first.now)) _ _ _ c.in-Some.ensures.steps c.loop-a.invariant.here in
    omega (arith, h.0, events_length c.args.first.now)

pub event_at-requires-in-loop-a : goal.event_at-requires-in-loop-a
event_at-requires-in-loop-a c =
    let h = first_and_others (λ (e : ℕ). e < length (events_of c.args.second.now)) _ _ _ c.in-Some-next.ensures.steps c.loop-a.invariant.there in
    omega (arith, h.0, events_length c.args.second.now)

pub returns-then-not-same_record : goal.returns-then-not-same_record
returns-then-not-same_record c =
    let told = sym (c.same_record.ensures ∙ ap₂ same_record c.event_at.ensures c.event_at-in-loop-a.ensures) in
    differ (event_in (events_of c.args.first.now)) (event_in (events_of c.args.second.now)) _ _ _ _ _ _ c.in-Some.ensures.steps _ _ c.in-Some-next.ensures.steps (told ∙ c.if-not-same_record.true)
    ∙ c.loop-a.invariant.whole

pub overflow_add-position : goal.overflow_add-position
overflow_add-position c =
    omega (arith, c.loop-a.invariant.few)

pub loop-a-preserved : goal.loop-a-preserved
loop-a-preserved c =
    let told = sym (c.same_record.ensures ∙ ap₂ same_record c.event_at.ensures c.event_at-in-loop-a.ensures) in
    let k = c.loop-a.invariant in
    record {
      whole =
          sym (same_here (event_in (events_of c.args.first.now)) (event_in (events_of c.args.second.now)) _ _ _ _ _ _ c.in-Some.ensures.steps _ _ c.in-Some-next.ensures.steps (told ∙ c.if-not-same_record.false))
          ∙ k.whole;
      here = (first_and_others (λ (e : ℕ). e < length (events_of c.args.first.now)) _ _ _ c.in-Some.ensures.steps k.here).1;
      there = (first_and_others (λ (e : ℕ). e < length (events_of c.args.second.now)) _ _ _ c.in-Some-next.ensures.steps k.there).1;
      few = omega (arith, k.few, ap (length {A = ℕ}) c.in-Some.ensures.steps);
    }

pub returns-in-Some-next-2 : goal.returns-in-Some-next-2
returns-in-Some-next-2 c =
    first_ends (event_in (events_of c.args.first.now)) (event_in (events_of c.args.second.now)) _ _ _ _ c.in-None.ensures.steps.0 _ _ c.in-Some-next-2.ensures.steps ∙ c.loop-a.invariant.whole

pub returns-in-None-next : goal.returns-in-None-next
returns-in-None-next c =
    both_end (event_in (events_of c.args.first.now)) (event_in (events_of c.args.second.now)) _ _ _ _ c.in-None.ensures.steps.0 c.in-None-next.ensures.steps.0 ∙ c.loop-a.invariant.whole
