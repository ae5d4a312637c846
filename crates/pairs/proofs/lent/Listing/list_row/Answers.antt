-- list_row meets its contract: listed so far are the entries with the places that the walk has yielded. Assumes nothing.
use mathlib.Core.Path.{◌≡◌, refl, sym, ap, ◌∙◌}
use mathlib.Core.Bool.{Bool, true}
use mathlib.Core.List.{List, ◌++◌}
use Prim.Native.Nat.{ℕ, ◌+◌, ◌≤◌, ◌<◌}
use native.Mathlib.Omega.{arith}
use lib.ListN.{length, get_or}
use Rattle.std.specs.List.{All}
use Rattle.model.specs.Numbers.{flat_map}
use Rattle.model.specs.Recording.{event_in}
use Rattle.model.specs.File.{events_of}
use Rattle.model.specs.Pairs.{Entry, pair_at}
use Rattle.events.specs.Chains.{access_of, Nearest}
use Rattle.events.specs.Links.{along}
use Rattle.events.proofs.Links.{left, all_rising}
use Rattle.pairs.specs.Lent.{row_of}
use Rattle.pairs.specs.Listing.{by}
use Rattle.pairs.proofs.Chains.{next_place}
use Rattle.pairs.proofs.Race.{pair_in, row_each, behind_hit, behind_most, pair_passed, pair_start}
use Rattle.pairs.proofs.Stores.{laid_none, laid_then}
use Rattle.pairs.proofs.Walks.{flat_more, flat_most, along_few, along_all, each_along, one_more, no_more}
use Rattle.pairs.proofs.lent.Listing.list_row.Goals as goal
use Rattle.pairs.proofs.lent.Listing.list_row.Goals.{After-at_place-a, After-into_iter-j-iterator, In-Some}

-- the cell of the event at place i, and its chain
module _ (c : After-at_place-a) where
  abbrev on_cell : ℕ → Bool
  on_cell = access_of c.args.self.now.vectors.records.now c.args.self.now.order.now (event_in (events_of c.args.self.now.vectors.records.now) (get_or c.args.self.now.order.now c.args.i 0)).object

  near : (a : ℕ) → a < length c.args.self.now.order.now → on_cell a ≡ true → Nearest on_cell (length c.args.self.now.order.now) (a + 1) (get_or c.args.self.now.chain.now a 0)
  near a l t = next_place c.args.self.now.linked _ c.requires.0.cell a l t

  first : Nearest on_cell (length c.args.self.now.order.now) (c.args.i + 1) (get_or c.args.self.now.chain.now c.args.i 0)
  first = near c.args.i c.requires.0.placed c.requires.0.access

  abbrev places : List ℕ
  places = along c.args.self.now.chain.now (length c.args.self.now.order.now) (length c.args.self.now.order.now) (get_or c.args.self.now.chain.now c.args.i 0)

  behind : All (λ j. (c.args.i + 1 ≤ j) × (j < length c.args.self.now.order.now) × (on_cell j ≡ true)) places
  behind = along_all c.args.self.now.chain.now (length c.args.self.now.order.now) on_cell near (c.args.i + 1) _ _ first.low first.hit

pub from-j-items-requires-clause-up : goal.from-j-items-requires-clause-up
from-j-items-requires-clause-up c =
    let start = (goal.at.from-j-items-requires-clause-up c).After-at_place-a in all_rising _ _ (on_cell start) (near start) _ (first start).hit

pub loop-j-init : goal.loop-j-init
unfolding flat_map
loop-j-init c =
    laid_none _ _ _ refl

whole : (c : After-into_iter-j-iterator) → left c.into_iter-j-iterator.result ≡ places (goal.at.After-into_iter-j-iterator c).After-at_place-a
whole c =
    ap left c.into_iter-j-iterator.ensures.into_iter_gives ∙ c.from-j-items.ensures

next_one : (c : In-Some) → (c.args.i + 1 ≤ c.in-Some.j) × (c.in-Some.j < length c.args.self.now.order.now) × (length c.loop-j.yielded < length c.args.self.now.order.now)
next_one c =
    let k = c.loop-j in
    let start = (goal.at.In-Some c).After-at_place-a in
    let t = one_more _ _ (whole (goal.at.In-Some c).After-into_iter-j-iterator) k.yielded _ k.yielded_by _ c.next.new.self c.next.ensures.steps (λ j. (c.args.i + 1 ≤ j) × (j < length c.args.self.now.order.now) × (on_cell start j ≡ true)) (behind start) c.in-Some.j c.in-Some.is in
    (t.0.0, t.0.1, omega (arith, t.1, along_few c.args.self.now.chain.now (length c.args.self.now.order.now) (length c.args.self.now.order.now) (get_or c.args.self.now.chain.now c.args.i 0)))

pub at_place-b-requires : goal.at_place-b-requires
at_place-b-requires c =
    (next_one (goal.at.at_place-b-requires c).In-Some).1

pub event_at-v-requires : goal.event_at-v-requires
event_at-v-requires c =
    omega (arith, c.at_place-a.ensures, c.args.self.now.linked.along.numbered c.args.i c.requires.0.placed)

pub list_pair-next-requires : goal.list_pair-next-requires
list_pair-next-requires c =
    let s = c.args.self.now in
    let k = c.loop-j in
    let order = s.linked.along in
    let n = next_one (goal.at.list_pair-next-requires c).In-Some in
    let few = flat_most (by pair_in s.vectors s.order.now c.args.i) 1 (behind_most _ _ _ s.order.now c.args.i) k.yielded in
    record {
      numbered = (omega (arith, c.at_place-a.ensures, order.numbered c.args.i c.requires.0.placed), omega (arith, c.at_place-b.ensures, order.numbered c.in-Some.j n.1), c.event_at-v.ensures);
      room = omega (arith, k.invariant.next, few, n.2, order.few, c.requires.1);
    }

pub loop-j-preserved : goal.loop-j-preserved
loop-j-preserved c =
    let s = c.args.self.now in
    let k = c.loop-j in
    let pairs : ℕ → List Entry = by pair_in s.vectors s.order.now c.args.i in
    let pair : pairs c.in-Some.j ≡ by pair_at s.vectors c.at_place-a.result c.at_place-b.result = behind_hit _ _ _ s.order.now _ _ c.args.i c.in-Some.j c.at_place-a.ensures c.at_place-b.ensures (omega (arith, (next_one (goal.at.loop-j-preserved c).In-Some).0)) in
    rw (flat_more pairs k.yielded c.in-Some.j) (laid_then _ _ k.auto.out k.invariant (rw pair c.list_pair-next.ensures))

pub returns : goal.returns
returns c =
    let s = c.args.self.now in
    let k = c.loop-j in
    let start = (goal.at.returns c).After-at_place-a in
    let pairs : ℕ → List Entry = by pair_in s.vectors s.order.now c.args.i in
    let n = length s.order.now in
    let all = no_more _ _ (whole (goal.at.returns c).After-into_iter-j-iterator) k.yielded _ k.yielded_by _ c.next.new.self c.next.ensures.steps c.in-None.is in
    let f = first start in
    let parts = each_along s.chain.now n (on_cell start) (near start) pairs (pair_passed _ _ _ _ s.order.now c.args.i) n _ (omega arith) f.high f.hit in
    let entries : flat_map pairs k.yielded ≡ by row_of s.vectors s.order.now c.args.i = ap (flat_map pairs) all ∙ ap (λ (l : List Entry). l ++ flat_map pairs (places start)) (sym (pair_start _ _ _ _ s.order.now c.args.i _ f)) ∙ parts ∙ sym (row_each _ _ _ s.order.now c.args.i) in
    rw entries at k.invariant
