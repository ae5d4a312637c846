-- needed meets its contract: in the walk along the waits k is 1 plus those counted so far; then it is lowered.
-- Assumes nothing.
use mathlib.Core.Path.{◌≡◌, refl, sym, ap, ap₂, ◌∙◌}
use mathlib.Core.List.{List}
use mathlib.Core.Bool.{Bool}
use Prim.Native.Nat.{ℕ, suc, ◌-◌, ◌≤◌, ◌<◌}
use native.Mathlib.Omega.{arith}
use lib.ListN.{length}
use Rattle.model.specs.Numbers.{count, picked}
use Rattle.model.specs.Recording.{wait}
use Rattle.model.specs.File.{events_of}
use Rattle.model.specs.Vectors.{ordered}
use Rattle.model.specs.Passes.{events_on, k_of}
use Rattle.model.proofs.Counting.{count_length}
use Rattle.model.proofs.Picked.{picked_few}
use Rattle.events.specs.Chains.{on_at}
use Rattle.events.proofs.Links.{left, one_more, no_more}
use Rattle.passes.specs.Lent.{over}
use Rattle.passes.proofs.Walks.{count_hit, count_miss, has_slots}
use Rattle.passes.specs.Lookups.{vectors_over}
use Rattle.passes.proofs.lent.Lookups.needed.Goals as goal
use Rattle.passes.proofs.lent.Lookups.needed.Goals.{After-into_iter-w-iterator, In-Some, After-ordered, After-start_of-start}

pub events_on-w-items-requires : goal.events_on-w-items-requires
events_on-w-items-requires c =
    let p = c.args.self.now.prepared in
    (p.linked, omega (arith, p.placed.records.whole, p.placed.records.few), (has_slots c.args.s c.requires.2).1)

pub loop-w-init : goal.loop-w-init
unfolding count
loop-w-init c =
    refl

-- the walk goes over the waits
whole : (c : After-into_iter-w-iterator) → left c.into_iter-w-iterator.result ≡ picked (on_at c.args.self.now.records.now wait c.args.s) (length (events_of c.args.self.now.records.now))
whole c =
    ap left c.into_iter-w-iterator.ensures.into_iter_gives ∙ c.events_on-w-items.ensures

next_one : (c : In-Some) → (c.loop-w.k ≤ length (events_of c.args.self.now.records.now)) × (c.in-Some.w < length (events_of c.args.self.now.records.now))
next_one c =
    let k = c.loop-w in
    let waits = on_at c.args.self.now.records.now wait c.args.s in
    let n = length (events_of c.args.self.now.records.now) in
    let t = one_more waits n _ (whole (goal.at.In-Some c).After-into_iter-w-iterator) k.yielded _ k.yielded_by _ c.next.new.self c.next.ensures.steps c.in-Some.w c.in-Some.is in
    (omega (arith, t.0, k.invariant, picked_few waits n, count_length (λ w. ordered (events_of c.args.self.now.records.now) (vectors_over c.args.self.now c.args.v.now) w c.args.e) k.yielded), t.1)

pub ordered-requires : goal.ordered-requires
ordered-requires c =
    rw c.vectors-vectors.ensures.records ((next_one (goal.at.ordered-requires c).In-Some).1, c.requires.1)

pub overflow_add-k : goal.overflow_add-k
overflow_add-k c =
    omega (arith, (next_one (goal.at.overflow_add-k c).In-Some).0, c.args.self.now.prepared.placed.records.few)

-- the answer tells whether the wait counts
told : (c : After-ordered) → c.ordered.result ≡ ordered (events_of c.args.self.now.records.now) (vectors_over c.args.self.now c.args.v.now) c.in-Some.w c.args.e
told c =
    let lent = c.vectors-vectors.ensures in rw (lent.records, lent.counts, lent.numbers) at c.ordered.ensures

pub loop-w-preserved-then-ordered : goal.loop-w-preserved-then-ordered
loop-w-preserved-then-ordered c =
    let p : ℕ → Bool = λ w. ordered (events_of c.args.self.now.records.now) (vectors_over c.args.self.now c.args.v.now) w c.args.e in
    omega (arith, c.loop-w.invariant, count_hit p c.loop-w.yielded c.in-Some.w (sym (told (goal.at.loop-w-preserved-then-ordered c).After-ordered) ∙ c.if-ordered.true))

pub loop-w-preserved : goal.loop-w-preserved
loop-w-preserved c =
    let p : ℕ → Bool = λ w. ordered (events_of c.args.self.now.records.now) (vectors_over c.args.self.now c.args.v.now) w c.args.e in
    omega (arith, c.loop-w.invariant, count_miss p c.loop-w.yielded c.in-Some.w (sym (told (goal.at.loop-w-preserved c).After-ordered) ∙ c.if-ordered.false))

-- the value that is answered, at this place
module _ (t : After-start_of-start) where
  lowered : t.loop-w.k - t.start_of-start.result ≡ over k_of t.args.self.now.records.now t.args.self.now.counts t.args.self.now.levels.now t.args.v.now t.args.e t.args.s
  unfolding events_on
  lowered =
      let a = t.args in
      let k = t.loop-w in
      let l = events_of a.self.now.records.now in
      let all = no_more (on_at a.self.now.records.now wait a.s) (length l) _ (whole (goal.at.After-start_of-start t).After-into_iter-w-iterator) k.yielded _ k.yielded_by _ t.next.new.self t.next.ensures.steps t.in-None.is in
      ap₂ ◌-◌ (k.invariant ∙ ap (λ (x : List ℕ). suc (count (λ w. ordered l (vectors_over a.self.now a.v.now) w a.e) x)) all) t.start_of-start.ensures

pub returns-then-k-start : goal.returns-then-k-start
returns-then-k-start c =
    let q = lowered (goal.at.returns-then-k-start c).After-start_of-start in omega (arith, q)

pub returns : goal.returns
returns c =
    lowered (goal.at.returns c).After-start_of-start
