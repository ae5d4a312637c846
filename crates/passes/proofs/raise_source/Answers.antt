-- raise_source meets its contract: what is kept at the place is the source.
-- Assumes nothing.
use mathlib.Core.Path.{◌≡◌, ap, subst, ◌∙◌}
use Rattle.std.specs.Prelude.{Option}
use mathlib.Core.List.{[]}
use Prim.Native.Nat.{ℕ, ◌/◌}
use native.Mathlib.Omega.{arith}
use lib.ListN.{length, get_or}
use Rattle.model.specs.Numbers.{found}
use Rattle.model.specs.Recording.{size}
use Rattle.model.specs.File.{events_of, recording_by}
use Rattle.vectors.specs.Rows.{chunks}
use Rattle.vectors.proofs.Chunks.{next_row}
use Rattle.events.specs.Kept.{Below, found_below}
use Rattle.passes.specs.Lent.{vectors_in}
use Rattle.passes.specs.Steps.{taken}
use Rattle.passes.proofs.Taken.{inside, taken_found}
use Rattle.passes.proofs.raise_source.Goals as goal

pub raise_found-requires : goal.raise_found-requires
raise_found-requires c =
    let events : length c.args.records.now / 4 ≡ length (events_of c.args.records.now) = omega (arith, c.requires.records.0.whole) in
    let n = length (events_of c.args.records.now) in
    let m = c.args.counts.tasks in
    let f = c.found_below-from in
    (omega (arith, next_row c.args.e n m c.requires.records.2, c.requires.records.1), inside m n _ f.result c.requires.records.1 (subst (λ (n : ℕ). Below n f.result) (events) f.ensures.1))

pub returns : goal.returns
returns c =
    let events : length c.args.records.now / 4 ≡ length (events_of c.args.records.now) = omega (arith, c.requires.records.0.whole) in
    let r = c.args.records.now in
    let a = c.args.counts in
    let E = recording_by r a [] in
    let f = c.found_below-from in
    let x = c.raise_found in
    let from = f.ensures.0 ∙ ap (λ (n : ℕ). found_below n (get_or c.args.sources.now c.args.i 0)) (events) ∙ c.requires.records.3.source c.args.i c.requires.i_bound in record {
      becomes = ap (chunks (size E) a.tasks) x.ensures.v_after
          ∙ taken_found a (size E) c.args.v.now c.args.e f.result c.requires.records.1 c.requires.records.2
          ∙ ap (λ (g : Option ℕ). taken a (vectors_in r a c.args.v.now) (found g) c.args.e) from;
      rose = x.ensures.rose;
    }
