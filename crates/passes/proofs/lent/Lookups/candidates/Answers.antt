-- candidates meets its contract: in the walk those picked so far are in front, and behind them is what was there.
-- Assumes nothing.
use mathlib.Core.Path.{◌≡◌, refl, sym, ap, ◌∙◌}
use mathlib.Core.Bool.{Bool, not}
use mathlib.Core.List.{List, ◌∷◌, [], ◌++◌}
use Prim.Native.Nat.{ℕ, ◌<◌}
use native.Mathlib.Omega.{arith}
use lib.ListN.{length, drop, set, length-append}
use Rattle.model.specs.Numbers.{filter, picked}
use Rattle.model.specs.File.{events_of}
use Rattle.model.specs.Vectors.{ordered}
use Rattle.model.proofs.Picked.{picked_few}
use Rattle.events.specs.Chains.{on_at}
use Rattle.events.proofs.Links.{left, one_more, no_more}
use Rattle.passes.specs.Steps.{candidates_on}
use Rattle.passes.proofs.Waits.{pick_one, filter_picked}
use Rattle.passes.proofs.Walks.{filter_few, filter_hit, filter_miss}
use Rattle.passes.specs.Lookups.{vectors_over}
use Rattle.passes.proofs.lent.Lookups.candidates.Goals as goal
use Rattle.passes.proofs.lent.Lookups.candidates.Goals.{After-into_iter-a-iterator, In-Some, After-ordered, In-None}

pub loop-a-init : goal.loop-a-init
unfolding filter
loop-a-init c =
    record { c_is = refl; out_is = refl }

-- the walk goes over the events of the kind on x
whole : (c : After-into_iter-a-iterator) → left c.into_iter-a-iterator.result ≡ picked (on_at c.args.self.now.records.now c.args.kind c.args.x) (length (events_of c.args.self.now.records.now))
whole c =
    ap left c.into_iter-a-iterator.ensures.into_iter_gives ∙ c.events_on-a-items.ensures

next_one : (c : In-Some) → (c.loop-a.c < 1024) × (c.in-Some.a < length (events_of c.args.self.now.records.now)) × (c.in-Some.a < 1024)
next_one c =
    let r = c.args in
    let k = c.loop-a in
    let p = on_at r.self.now.records.now r.kind r.x in
    let n = length (events_of r.self.now.records.now) in
    let t = one_more p n _ (whole (goal.at.In-Some c).After-into_iter-a-iterator) k.yielded _ k.yielded_by _ c.next.new.self c.next.ensures.steps c.in-Some.a c.in-Some.is in
    let few = r.self.now.prepared.placed.records.few in
    (omega (arith, t.0, k.invariant.c_is, few, picked_few p n, filter_few (λ a. not (ordered (events_of r.self.now.records.now) (vectors_over r.self.now r.v.now) r.e a)) k.yielded), t.1, omega (arith, t.1, few))

pub ordered-requires : goal.ordered-requires
ordered-requires c =
    rw c.vectors-vectors.ensures.records (c.requires.e_bound.1, (next_one (goal.at.ordered-requires c).In-Some).1)

pub overflow_cast-out : goal.overflow_cast-out
overflow_cast-out c =
    omega (arith, (next_one (goal.at.overflow_cast-out c).In-Some).2)

pub bounds-out-c : goal.bounds-out-c
bounds-out-c c =
    omega (arith, (next_one (goal.at.bounds-out-c c).In-Some).0, c.requires.kind_bound.1, c.loop-a.auto.out)

pub offset_bounds-out-c : goal.offset_bounds-out-c
offset_bounds-out-c c =
    omega (arith, (next_one (goal.at.offset_bounds-out-c c).In-Some).0)

pub overflow_add-c : goal.overflow_add-c
overflow_add-c c =
    omega (arith, (next_one (goal.at.overflow_add-c c).In-Some).0)

-- the answer tells whether the event is kept
told : (c : After-ordered) → c.ordered.result ≡ ordered (events_of c.args.self.now.records.now) (vectors_over c.args.self.now c.args.v.now) c.args.e c.in-Some.a
told c =
    let lent = c.vectors-vectors.ensures in rw (lent.records, lent.counts, lent.numbers) at c.ordered.ensures

pub loop-a-preserved-then-not-ordered : goal.loop-a-preserved-then-not-ordered
loop-a-preserved-then-not-ordered c =
    let r = c.args in
    let k = c.loop-a in
    let p : ℕ → Bool = λ a. not (ordered (events_of r.self.now.records.now) (vectors_over r.self.now r.v.now) r.e a) in
    let hit = filter_hit p k.yielded c.in-Some.a (ap not (sym (told (goal.at.loop-a-preserved-then-not-ordered c).After-ordered) ∙ c.if-not-ordered.true)) in
    let room : k.c < length r.out.now = omega (arith, (next_one (goal.at.loop-a-preserved-then-not-ordered c).In-Some).0, c.requires.kind_bound.1) in
    record {
      c_is = rw hit (omega (arith, k.invariant.c_is, length-append (filter p k.yielded) (c.in-Some.a ∷ [])));
      out_is = rw hit (ap (λ (l : List ℕ). set l k.c c.in-Some.a) k.invariant.out_is ∙ pick_one (filter p k.yielded) r.out.now k.c c.in-Some.a k.invariant.c_is room);
    }

pub loop-a-preserved : goal.loop-a-preserved
loop-a-preserved c =
    let r = c.args in
    let k = c.loop-a in
    let p : ℕ → Bool = λ a. not (ordered (events_of r.self.now.records.now) (vectors_over r.self.now r.v.now) r.e a) in
    let miss = filter_miss p k.yielded c.in-Some.a (ap not (sym (told (goal.at.loop-a-preserved c).After-ordered) ∙ c.if-not-ordered.false)) in
    rw miss (record { c_is = k.invariant.c_is; out_is = k.invariant.out_is })

-- at the end all are kept that are candidates
ended : (c : In-None) → filter (λ a. not (ordered (events_of c.args.self.now.records.now) (vectors_over c.args.self.now c.args.v.now) c.args.e a)) c.loop-a.yielded ≡ candidates_on (events_of c.args.self.now.records.now) (vectors_over c.args.self.now c.args.v.now) c.args.e c.args.kind c.args.x
unfolding candidates_on
ended c =
    let r = c.args in
    let k = c.loop-a in
    let n = length (events_of r.self.now.records.now) in
    let on = on_at r.self.now.records.now r.kind r.x in
    let p : ℕ → Bool = λ a. not (ordered (events_of r.self.now.records.now) (vectors_over r.self.now r.v.now) r.e a) in
    let all = no_more on n _ (whole (goal.at.In-None c).After-into_iter-a-iterator) k.yielded _ k.yielded_by _ c.next.new.self c.next.ensures.steps c.in-None.is in
    ap (filter p) all ∙ filter_picked on p n

pub returns : goal.returns
returns c =
    let k = c.loop-a in
    let all = ended (goal.at.returns c).In-None in
    record { value = k.invariant.c_is ∙ ap length all; out_after = k.invariant.out_is ∙ ap (λ (l : List ℕ). l ++ drop k.c c.args.out.now) all }
