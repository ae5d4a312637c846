-- What a recording that is ready to be worked on shows, alone and with work numbers.
-- Assumes nothing.
use Rattle.std.specs.Prelude.{ℕ, List}
use Rattle.model.specs.Recording.{Recording}
use Rattle.model.specs.File.{recording_by}
use Rattle.model.specs.Vectors.{Vectors}
use Rattle.work.specs.declared.ready.ReadyEvents.{ReadyEvents}
use Rattle.work.specs.Lent.{Roomy, safe_in, recorded_in, in_work}

-- the recording of the records and level bytes
abbrev pub recording_of : ReadyEvents → Recording
recording_of p = recording_by p.records.now p.counts p.levels.now

-- the work numbers have room for both vectors of its events
abbrev pub Room : ReadyEvents → List ℕ → Type 0
Room p work = Roomy p.records.now p.counts work

-- the safe and the recorded vectors of its events in work numbers
abbrev pub safe_of : ReadyEvents → List ℕ → Vectors
safe_of p work = safe_in p.records.now p.counts work

abbrev pub recorded_of : ReadyEvents → List ℕ → Vectors
recorded_of p work = recorded_in p.records.now p.counts work

-- a definition over a recording, its safe and its recorded vectors, at these
abbrev pub by_work : {A : Type 0} → (Recording → Vectors → Vectors → A) → ReadyEvents → List ℕ → A
by_work f p work = in_work f p.records.now p.counts work
