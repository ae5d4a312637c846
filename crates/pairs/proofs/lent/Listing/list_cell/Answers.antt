-- list_cell meets its contract: listed so far are the rows of the places that the walk has yielded. Assumes nothing.
use mathlib.Core.Path.{◌≡◌, refl, sym, ap, ◌∙◌}
use mathlib.Core.Bool.{Bool, true}
use mathlib.Core.List.{List, ◌++◌}
use Prim.Native.Nat.{ℕ, ◌+◌, ◌≤◌, ◌<◌}
use native.Mathlib.Omega.{arith}
use lib.ListN.{length, get_or}
use Rattle.std.specs.List.{All}
use Rattle.model.specs.Numbers.{each, flat_map}
use Rattle.model.specs.Pairs.{Entry, cell_entries}
use Rattle.events.specs.Chains.{access_of, head, Nearest}
use Rattle.events.specs.Links.{along}
use Rattle.events.proofs.Links.{left, all_rising}
use Rattle.pairs.specs.declared.lent.Listing.{Listing}
use Rattle.pairs.specs.Lent.{row_of}
use Rattle.pairs.specs.Listing.{by}
use Rattle.pairs.proofs.Chains.{in_chain, first_place, next_place}
use Rattle.pairs.proofs.Race.{row_in, cell_each, row_at_most, row_hit, row_miss, row_skip}
use Rattle.pairs.proofs.Stores.{laid_none, laid_then}
use Rattle.pairs.proofs.Walks.{flat_more, flat_most, along_few, along_all, each_along, one_more, no_more}
use Rattle.pairs.proofs.lent.Listing.list_cell.Goals as goal
use Rattle.pairs.proofs.lent.Listing.list_cell.Goals.{After-into_iter-i-iterator, In-Some}

-- the chain of the cell
module _ (s : Listing) (cell : ℕ) (h : cell < s.vectors.counts.cells) where
  abbrev on_cell : ℕ → Bool
  on_cell = access_of s.vectors.records.now s.order.now cell

  near : (a : ℕ) → a < length s.order.now → on_cell a ≡ true → Nearest on_cell (length s.order.now) (a + 1) (get_or s.chain.now a 0)
  near a l t = next_place s.linked cell h a l t

  first : Nearest on_cell (length s.order.now) 0 (get_or s.chain.now (head cell) 0)
  first = first_place s.linked cell h

  abbrev places : List ℕ
  places = along s.chain.now (length s.order.now) (length s.order.now) (get_or s.chain.now (head cell) 0)

  here : All (λ i. (0 ≤ i) × (i < length s.order.now) × (on_cell i ≡ true)) places
  here = along_all s.chain.now (length s.order.now) on_cell near 0 _ _ first.low first.hit

pub from-i-items-requires-clause-up : goal.from-i-items-requires-clause-up
from-i-items-requires-clause-up c =
    all_rising _ _ (on_cell c.args.self.now c.args.cell c.requires.0) (near c.args.self.now c.args.cell c.requires.0) _ (first c.args.self.now c.args.cell c.requires.0).hit

pub loop-i-init : goal.loop-i-init
unfolding flat_map
loop-i-init c =
    laid_none _ _ _ refl

whole : (c : After-into_iter-i-iterator) → left c.into_iter-i-iterator.result ≡ places c.args.self.now c.args.cell c.requires.0
whole c =
    ap left c.into_iter-i-iterator.ensures.into_iter_gives ∙ c.from-i-items.ensures

next_one : (c : In-Some) → (c.in-Some.i < length c.args.self.now.order.now) × (on_cell c.args.self.now c.args.cell c.requires.0 c.in-Some.i ≡ true) × (length c.loop-i.yielded < length c.args.self.now.order.now)
next_one c =
    let k = c.loop-i in
    let s = c.args.self.now in
    let t = one_more _ _ (whole (goal.at.In-Some c).After-into_iter-i-iterator) k.yielded _ k.yielded_by _ c.next.new.self c.next.ensures.steps (λ i. (0 ≤ i) × (i < length s.order.now) × (on_cell s c.args.cell c.requires.0 i ≡ true)) (here s c.args.cell c.requires.0) c.in-Some.i c.in-Some.is in
    (t.0.1, t.0.2, omega (arith, t.1, along_few s.chain.now (length s.order.now) (length s.order.now) (get_or s.chain.now (head c.args.cell) 0)))

pub list_row-next-requires : goal.list_row-next-requires
list_row-next-requires c =
    let s = c.args.self.now in
    let k = c.loop-i in
    let n = next_one (goal.at.list_row-next-requires c).In-Some in
    let most : (i : ℕ) → length (by row_in s.vectors s.order.now c.args.cell i) ≤ length s.order.now = row_at_most _ _ _ s.order.now c.args.cell in
    let few = flat_most (by row_in s.vectors s.order.now c.args.cell) 1024 (λ i. omega (arith, most i, s.linked.along.few)) k.yielded in
    (in_chain s.vectors.records.now s.order.now s.vectors.counts.cells c.args.cell _ n.0 c.requires.0 n.1, omega (arith, k.invariant.next, few, n.2, s.linked.along.few, c.requires.1))

pub loop-i-preserved : goal.loop-i-preserved
loop-i-preserved c =
    let s = c.args.self.now in
    let k = c.loop-i in
    let rows : ℕ → List Entry = by row_in s.vectors s.order.now c.args.cell in
    let row : rows c.in-Some.i ≡ by row_of s.vectors s.order.now c.in-Some.i = row_hit _ _ _ s.order.now c.args.cell c.in-Some.i (next_one (goal.at.loop-i-preserved c).In-Some).1 in
    rw (flat_more rows k.yielded c.in-Some.i) (laid_then _ _ k.auto.out k.invariant (rw row c.list_row-next.ensures))

pub returns : goal.returns
unfolding each
returns c =
    let s = c.args.self.now in
    let k = c.loop-i in
    let cell = c.args.cell in
    let h = c.requires.0 in
    let rows : ℕ → List Entry = by row_in s.vectors s.order.now cell in
    let n = length s.order.now in
    let all = no_more _ _ (whole (goal.at.returns c).After-into_iter-i-iterator) k.yielded _ k.yielded_by _ c.next.new.self c.next.ensures.steps c.in-None.is in
    let f = first s cell h in
    let parts = each_along s.chain.now n (on_cell s cell h) (near s cell h) rows (row_miss _ _ _ s.order.now cell) n _ (omega arith) f.high f.hit in
    let entries : flat_map rows k.yielded ≡ by cell_entries s.vectors s.order.now cell = ap (flat_map rows) all ∙ ap (λ (l : List Entry). l ++ flat_map rows (places s cell h)) (sym (row_skip _ _ _ _ s.order.now cell 0 _ f)) ∙ parts ∙ sym (cell_each _ _ _ s.order.now cell) in
    rw entries at k.invariant
