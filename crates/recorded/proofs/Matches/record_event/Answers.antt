-- record_event meets its contract: step 1, then the matched signal, then the first posts.
-- Assumes nothing.
use mathlib.Core.Path.{ap, ◌∙◌}
use Rattle.std.specs.Prelude.{ℕ, Option}
use native.Mathlib.Omega.{arith}
use Rattle.model.specs.Numbers.{found}
use Rattle.model.specs.Recording.{size}
use Rattle.vectors.proofs.Chunks.{next_row, chunks_shaped}
use Rattle.passes.specs.Lookups.{recording_of, vectors_over}
use Rattle.passes.specs.Steps.{taken}
use Rattle.model.proofs.Levels.{step_one_levels}
use Rattle.passes.proofs.Taken.{inside, taken_found}
use Rattle.recorded.proofs.Taken.{record_event}
use Rattle.recorded.proofs.Matches.record_event.Goals as goal

pub raise_found-requires : goal.raise_found-requires
raise_found-requires c =
    let n = size (recording_of c.args.look.now) in
    let m = c.args.look.now.counts.tasks in
    let k = c.step_one.auto.v ∙ c.requires.fitting.0 in
    (omega (arith, next_row c.args.e n m c.requires.fitting.1), inside m n _ c.take_signal-signal.result k c.take_signal-signal.ensures.value.1)

pub returns-clause-becomes : goal.returns-clause-becomes
returns-clause-becomes c =
    let p = c.args.look.now in
    let e = c.args.e in
    let E = recording_of p in
    let x = c.step_one in
    let m = c.take_signal-signal in
    let k = x.auto.v ∙ c.requires.fitting.0 in
    let z = ap (vectors_over p) c.raise_found.ensures.v_after
    ∙ taken_found p.counts (size E) x.new.v e m.result k c.requires.fitting.1
    ∙ ap (λ (f : Option ℕ). taken p.counts (vectors_over p x.new.v) (found f) e) m.ensures.value.0 in
    record_event E _ _ _ _ e (chunks_shaped (size E) p.counts.tasks c.args.v.now c.requires.fitting.0) c.requires.fitting.1
    (x.ensures.becomes ∙ step_one_levels p.records.now p.counts p.levels.now _ e) z c.raise_opened.ensures
