-- at_or_before meets its contract: the number read is that of b for a's task.
-- Assumes nothing.
use mathlib.Core.Path.{sym, ap, ap₂, ◌∙◌}
use Prim.Native.Nat.{◌<◌}
use native.Mathlib.Omega.{arith}
use lib.Dec.{leb}
use lib.ListN.{length}
use Rattle.model.specs.declared.Event.{Event}
use Rattle.model.specs.File.{events_of}
use Rattle.model.specs.Vectors.{number}
use Rattle.vectors.proofs.Chunks.{number_chunks}
use Rattle.passes.specs.Lent.{vectors_in}
use Rattle.passes.proofs.lent.EventVectors.at_or_before.Goals as goal

pub returns : goal.returns
returns c =
    let the-task : c.event_at-e.result.task < c.args.self.now.counts.tasks = let e = ap (λ (v : Event). v.task) c.event_at-e.ensures in
    omega (arith, c.args.self.now.placed.records.named c.args.a c.requires.0) in
    let l = events_of c.args.self.now.records.now in
    let X = vectors_in c.args.self.now.records.now c.args.self.now.counts c.args.self.now.numbers.now in
    ap₂ leb (c.args.self.now.placed.kept.placed c.args.a c.requires.0)
    (c.number.ensures
    ∙ sym (number_chunks (length l) c.args.self.now.counts.tasks c.args.self.now.numbers.now c.args.b c.event_at-e.result.task c.args.self.now.fitting (the-task))
    ∙ ap (λ (v : Event). number X c.args.b v.task) c.event_at-e.ensures)
