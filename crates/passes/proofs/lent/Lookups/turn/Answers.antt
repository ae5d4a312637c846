-- turn meets its contract: an event that reads nothing that has changed since its last turn would not rise.
-- Assumes nothing.
use mathlib.Core.Path.{sym, ap, ◌∙◌}
use mathlib.Core.Bool.{not}
use Prim.Native.Nat.{◌<◌}
use native.Mathlib.Omega.{arith}
use lib.ListN.{length}
use Rattle.model.specs.Recording.{size}
use Rattle.model.proofs.Settle.{same_eq}
use Rattle.vectors.proofs.Chunks.{chunks_shaped}
use Rattle.vectors.proofs.Rising.{rose_none}
use Rattle.passes.proofs.Stamps.{stays, known_still, known_kept, known_raised, known_quiet}
use Rattle.passes.proofs.Runs.{quiet}
use Rattle.passes.specs.Lookups.{recording_of, vectors_over}
use Rattle.passes.proofs.lent.Lookups.turn.Goals as goal

pub returns-then-still : goal.returns-then-still
returns-then-still c =
    let a = c.args in
    let E = recording_of a.self.now in
    let X = vectors_over a.self.now a.v.now in
    let k = c.requires.timed.1 in
    let g = c.args.self.now.prepared.sourced in
    let q = known_still E a.self.now.sources.now g X a.when.now a.base a.e _ c.requires.e_bound.1 k (sym c.still.ensures ∙ c.if-still.true) (omega arith) in
    record { becomes = stays E X a.e q; rose = rose_none a.v.now; known_in = known_kept E a.self.now.sources.now g X a.when.now a.base a.e k q }

pub returns-then-rose : goal.returns-then-rose
returns-then-rose c =
    let a = c.args in
    let E = recording_of a.self.now in
    let X = vectors_over a.self.now a.v.now in
    let g = c.args.self.now.prepared in
    let f = c.raise_event-rose in
    let n = (chunks_shaped (size E) a.self.now.counts.tasks a.v.now c.requires.e_bound.0).rows in
    record { becomes = f.ensures.becomes; rose = f.ensures.rose; known_in = rw c.touch.ensures (known_raised E a.self.now.sources.now g.sourced X _ a.when.now a.base a.e c.requires.e_bound.1 g.placed.records.few n c.requires.timed.1 f.ensures.becomes) }

pub returns-else-rose : goal.returns-else-rose
returns-else-rose c =
    let a = c.args in
    let E = recording_of a.self.now in
    let X = vectors_over a.self.now a.v.now in
    let f = c.raise_event-rose in
    let last = f.new.v in
    let Y = vectors_over a.self.now last in
    let n = (chunks_shaped (size E) a.self.now.counts.tasks a.v.now c.requires.e_bound.0).rows in
    let h : a.e < length X = omega (arith, n, c.requires.e_bound.1) in
    let same = same_eq X Y
    (quiet (size E) a.self.now.counts.tasks a.v.now last f.result c.requires.e_bound.0 (f.auto.v ∙ c.requires.e_bound.0) f.ensures.rose ∙ ap not c.if-rose.false) in
    record { becomes = f.ensures.becomes; rose = f.ensures.rose; known_in = known_quiet E a.self.now.sources.now c.args.self.now.prepared.sourced X Y a.when.now a.base a.e h c.requires.timed.1 f.ensures.becomes same }
