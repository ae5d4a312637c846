-- follow_posts meets its contract: the posts followed so far are those that the walk has yielded.
-- Assumes nothing.
use mathlib.Core.Path.{◌≡◌, sym, ap, ◌∙◌}
use Rattle.std.specs.Prelude.{Some}
use Rattle.std.specs.Iterator.Adapters.{take_source, take_count}
use mathlib.Core.List.{List}
use Prim.Native.Nat.{ℕ, ◌<◌}
use native.Mathlib.Omega.{arith}
use lib.ListN.{length}
use Rattle.model.specs.Numbers.{picked}
use Rattle.model.specs.Recording.{post}
use Rattle.model.specs.File.{events_of}
use Rattle.model.specs.Passes.{events_on}
use Rattle.vectors.proofs.Chunks.{chunks_shaped, next_row}
use Rattle.events.specs.Chains.{on_at}
use Rattle.events.proofs.Links.{left}
use Rattle.passes.specs.Lookups.{vectors_over}
use Rattle.passes.specs.Steps.{taken}
use Rattle.passes.proofs.Walks.{has_slots}
use Rattle.recorded.proofs.Taken.{taken_none, found_then}
use Rattle.recorded.proofs.Walks.{one_of_first, first_all}
use Rattle.recorded.proofs.follow_posts.Goals as goal
use Rattle.recorded.proofs.follow_posts.Goals.{After-into_iter-a-iterator, In-Some}

pub events_on-posts-requires : goal.events_on-posts-requires
events_on-posts-requires c =
    let p = c.args.look.now.prepared in
    (p.linked, omega (arith, p.placed.records.whole, p.placed.records.few), (has_slots c.args.g c.requires.2).2)

pub loop-a-init : goal.loop-a-init
loop-a-init c =
    let a = c.args in
    let n = length (events_of a.look.now.records.now) in
    record {
      fitting = c.requires.0;
      followed = sym (taken_none a.look.now.counts (vectors_over a.look.now a.v.now) a.e (chunks_shaped n a.look.now.counts.tasks a.v.now c.requires.0) c.requires.1);
    }

-- the walk goes over the posts, and stops after `most` of them
whole : (c : After-into_iter-a-iterator)
    → (left (take_source c.into_iter-a-iterator.result) ≡ picked (on_at c.args.look.now.records.now post c.args.g) (length (events_of c.args.look.now.records.now))) × (take_count c.into_iter-a-iterator.result ≡ c.args.most)
whole c =
    rw c.into_iter-a-iterator.ensures.into_iter_gives (ap left c.take-a-items.ensures.source ∙ c.events_on-posts.ensures, c.take-a-items.ensures.count)

inside : (c : In-Some) → c.in-Some.a < length (events_of c.args.look.now.records.now)
inside c =
    let k = c.loop-a in
    let w = whole (goal.at.In-Some c).After-into_iter-a-iterator in
    one_of_first (on_at c.args.look.now.records.now post c.args.g) (length (events_of c.args.look.now.records.now)) c.args.most _ w.0 w.1 k.yielded _ k.yielded_by _ c.next.new.self c.next.ensures.steps c.in-Some.a c.in-Some.is

pub raise_row-requires : goal.raise_row-requires
raise_row-requires c =
    let l = c.args.look.now in
    let n = length (events_of l.records.now) in
    let fit = c.loop-a.invariant.fitting in
    (omega (arith, fit, next_row c.args.e n l.counts.tasks c.requires.1), omega (arith, fit, next_row c.in-Some.a n l.counts.tasks (inside (goal.at.raise_row-requires c).In-Some)))

pub loop-a-preserved : goal.loop-a-preserved
loop-a-preserved c =
    let a = c.args in
    let k = c.loop-a in
    let f = c.raise_row in
    let n = length (events_of a.look.now.records.now) in
    record {
      fitting = f.auto.v ∙ k.invariant.fitting;
      followed = ap (vectors_over a.look.now) f.ensures.v_after
          ∙ found_then a.look.now.counts n a.v.now k.v a.e k.yielded (Some c.in-Some.a) c.requires.0 k.invariant.fitting c.requires.1 k.invariant.followed;
    }

pub returns : goal.returns
unfolding events_on
returns c =
    let a = c.args in
    let k = c.loop-a in
    let w = whole (goal.at.returns c).After-into_iter-a-iterator in
    let all = first_all (on_at a.look.now.records.now post a.g) (length (events_of a.look.now.records.now)) a.most _ w.0 w.1 k.yielded _ k.yielded_by _ c.next.new.self c.next.ensures.steps c.in-None.is in
    k.invariant.followed ∙ ap (λ (l : List ℕ). taken a.look.now.counts (vectors_over a.look.now a.v.now) l a.e) all
