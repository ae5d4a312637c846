-- race_pair meets its contract. Assumes nothing.
use mathlib.Core.Path.{◌≡◌, sym, ap, ap₂, ◌∙◌}
use mathlib.Core.Bool.{not}
use mathlib.Core.List.{[]}
use borrow.Author.Tests.{not-true, not-false}
use Rattle.model.specs.Recording.{event}
use Rattle.model.specs.File.{events_of, recording_by}
use Rattle.model.specs.Vectors.{unordered}
use Rattle.model.specs.Pairs.{conflict}
use Rattle.passes.specs.Lent.{vectors_in}
use Rattle.pairs.proofs.Race.{race_none, race_by}
use Rattle.pairs.proofs.lent.PairVectors.race_pair.Goals as goal
use Rattle.pairs.proofs.lent.PairVectors.race_pair.Goals.{After-conflict}

-- the test of the conflict, at this place
tested : (t : After-conflict) → let E = recording_by t.args.self.now.records.now t.args.self.now.counts [] in conflict (event E t.args.a) (event E t.args.b) ≡ t.conflict.result
tested t = sym (t.conflict.ensures ∙ ap₂ conflict t.requires.2 t.event_at-w.ensures)

pub returns-then-not-conflict : goal.returns-then-not-conflict
returns-then-not-conflict c =
    race_none _ _ _ _ (tested (goal.at.returns-then-not-conflict c).After-conflict ∙ not-true _ (ap not c.if-not-conflict.true))

pub returns : goal.returns
returns c =
    let a = c.args in
    let lent = c.by_safe-safe.ensures in
    let test : c.unordered.result ≡ unordered (events_of a.self.now.records.now) (vectors_in a.self.now.records.now a.self.now.counts a.self.now.safe.now) a.a a.b = rw (lent.records, lent.counts, lent.numbers) at c.unordered.ensures in
    race_by _ _ _ _ _ (tested (goal.at.returns c).After-conflict ∙ not-false _ (ap not c.if-not-conflict.false)) test
