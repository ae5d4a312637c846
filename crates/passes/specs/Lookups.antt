-- What the lent structs show: a recording, its events and their vectors.
-- Assumes nothing.
use Rattle.std.specs.Prelude.{ℕ, List}
use Rattle.model.specs.Recording.{Recording}
use Rattle.model.specs.File.{recording_by}
use Rattle.model.specs.Vectors.{Vectors}
use Rattle.passes.specs.declared.lent.EventVectors.{EventVectors}
use Rattle.passes.specs.declared.lent.Lookups.{Lookups}
use Rattle.passes.specs.Lent.{vectors_in, Fitting, Numbered}

-- the vectors of the events
abbrev pub vectors_of : EventVectors → Vectors
vectors_of p = vectors_in p.records.now p.counts p.numbers.now

-- the recording of the records and level bytes
abbrev pub recording_of : Lookups → Recording
recording_of p = recording_by p.records.now p.counts p.levels.now

-- lent numbers as the vectors of its events
abbrev pub vectors_over : Lookups → List ℕ → Vectors
vectors_over p v = vectors_in p.records.now p.counts v

-- they are as many as those vectors have
abbrev pub Fits : Lookups → List ℕ → Type 0
Fits p v = Fitting p.records.now p.counts v

-- e is the number of one of its events
abbrev pub Has : Lookups → ℕ → Type 0
Has p e = Numbered p.records.now e
