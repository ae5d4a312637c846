-- write_forward meets its contract: each of its answers is one of the cases. Assumes nothing.
use mathlib.Core.Bool.{not, true}
use mathlib.Core.Path.{◌≡◌, sym, ap, ◌∙◌}
use native.Mathlib.Omega.{arith}
use borrow.Author.Tests.{not-false}
use Rattle.model.specs.File.{events_of}
use Rattle.model.specs.Vectors.{unordered}
use Rattle.passes.specs.Lookups.{vectors_of}
use Rattle.reversed.proofs.Forward.{order_length, order_picks, written}
use Rattle.reversed.proofs.write_forward.Goals as goal

pub put_picked-requires : goal.put_picked-requires
put_picked-requires c =
    let p = c.args.recorded.now in
    let whole = p.placed.records.whole in
    let order = c.as_slice.ensures.value ∙ c.bring_forward-order.ensures in (
      order_picks p.records.now whole (vectors_of p) c.args.chosen _ order,
      omega (arith, order_length p.records.now whole (vectors_of p) c.args.chosen _ order, whole),
    )

pub returns-clause-out_after : goal.returns-clause-out_after
returns-clause-out_after c =
    let a = c.args in
    let p = a.recorded.now in
    let neither : unordered (events_of p.records.now) (vectors_of p) a.chosen a.other ≡ true = sym c.unordered.ensures ∙ not-false _ (ap not c.if-not-unordered.false) in
    written p.records.now p.counts a.levels.now (vectors_of p) a.chosen a.other a.out.now neither (omega arith) p.placed.records.whole _ (c.as_slice.ensures.value ∙ c.bring_forward-order.ensures) _ c.put_picked.ensures
