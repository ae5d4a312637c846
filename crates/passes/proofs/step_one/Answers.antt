-- step_one meets its contract: the three sources are taken one after another.
-- Assumes nothing.
use mathlib.Core.List.{[]}
use Rattle.model.specs.Recording.{size}
use Rattle.model.specs.File.{recording_by}
use Rattle.vectors.proofs.Chunks.{chunks_shaped}
use Rattle.vectors.proofs.Rising.{rose_then}
use Rattle.passes.specs.Lent.{vectors_in}
use Rattle.passes.proofs.Taken.{step_one_lem}
use Rattle.passes.proofs.step_one.Goals as goal

pub returns : goal.returns
returns c =
    let r = c.args.records.now in
    let a = c.args.counts in
    let E = recording_by r a [] in
    let x = c.raise_source-x in
    let y = c.raise_source-y in
    let z = c.raise_source-z in record {
      becomes = step_one_lem E (vectors_in r a c.args.v.now) (vectors_in r a x.new.v) (vectors_in r a y.new.v) (vectors_in r a z.new.v) c.args.e
          (chunks_shaped (size E) a.tasks c.args.v.now c.requires.1) c.requires.2 x.ensures.becomes y.ensures.becomes z.ensures.becomes;
      rose = rose_then (rose_then x.ensures.rose y.ensures.rose) z.ensures.rose;
    }
