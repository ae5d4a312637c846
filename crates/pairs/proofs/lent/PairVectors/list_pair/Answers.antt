-- list_pair meets its contract. Assumes nothing.
use mathlib.Core.Bool.{not}
use mathlib.Core.List.{[]}
use mathlib.Core.Path.{◌≡◌, ap, sym, ◌∙◌}
use borrow.Author.Tests.{not-true}
use Rattle.model.specs.File.{recording_by}
use Rattle.model.specs.Pairs.{mark}
use Rattle.passes.specs.Lent.{vectors_in}
use Rattle.pairs.proofs.Race.{pair_miss}
use Rattle.pairs.proofs.Stores.{laid_none, laid_pair, laid_beyond}
use Rattle.pairs.proofs.lent.PairVectors.list_pair.Goals as goal
use Rattle.pairs.proofs.lent.PairVectors.list_pair.Goals.{then-p-out, else-p-out}

pub returns-then-not-race_pair : goal.returns-then-not-race_pair
returns-then-not-race_pair c =
    laid_none _ _ _ (pair_miss _ _ _ _ _ (sym c.race_pair.ensures ∙ not-true _ (ap not c.if-not-race_pair.true)))

pub returns : goal.returns
returns c =
    let a = c.args in
    let E = recording_by a.self.now.records.now a.self.now.counts [] in
    let R = vectors_in a.self.now.records.now a.self.now.counts a.self.now.recorded.now in
    let pair = sym c.race_pair.ensures ∙ c.if-not-race_pair.false in
    elim c.if-p-out.branch [
      | then-p-out w ↦
          let lent = w.by_recorded-recorded.ensures in
          let marked : w.mark-m.result ≡ mark E R a.a a.b = rw (lent.records, lent.counts, lent.numbers) at w.mark-m.ensures in
          laid_pair E _ R a.a a.b pair _ a.p _ _ marked (w.out-is ∙ w.put_entry.ensures)
      | else-p-out w ↦ laid_beyond E _ R a.a a.b pair _ a.p _ w.if-p-out.false
    ]
