-- What the functions of this crate are lent, as facts about the recording of the record bytes.
-- Assumes nothing.
use Rattle.std.specs.Prelude.{ℕ, ◌+◌, ◌*◌, ◌≤◌, ◌<◌, ◌≡◌, List, length, get_or, Option, Some, None}
use Rattle.model.specs.declared.Counts.{Counts}
use Rattle.model.specs.Recording.{Recording, event_in, wait, flag_wait}
use Rattle.model.specs.File.{events_of, recording_by}
use Rattle.model.specs.Vectors.{Vectors}
use Rattle.model.specs.LastEvent.{NoneAfterJoin}
use Rattle.vectors.specs.Rows.{chunks, raised_at}
use Rattle.events.specs.Kept.{Positions, Sources}
use Rattle.events.specs.Chains.{Gathered}
use Rattle.model.specs.Reading.{most_semaphores, most_flags, most_events}

-- lent numbers as one vector for each event
abbrev pub vectors_in : List ℕ → Counts → List ℕ → Vectors
vectors_in s c v = chunks (length (events_of s)) c.tasks v

-- a definition over a recording and its vectors, at those that are lent; b are the level bytes, [] where f reads no levels
abbrev pub over : {A : Type 0} → (Recording → Vectors → A) → List ℕ → Counts → List ℕ → List ℕ → A
over f s c b v = f (recording_by s c b) (vectors_in s c v)

-- the lent numbers v have become v': f has been applied to their vectors
abbrev pub Becomes : (Recording → Vectors → Vectors) → List ℕ → Counts → List ℕ → List ℕ → List ℕ → Type 0
Becomes f s c b v v' = vectors_in s c v' ≡ over f s c b v

-- they are as many as the vectors have
abbrev pub Fitting : List ℕ → Counts → List ℕ → Type 0
Fitting s c v = length v ≡ length (events_of s) * c.tasks

-- a is the number of an event of these record bytes
abbrev pub Numbered : List ℕ → ℕ → Type 0
Numbered s a = a < length (events_of s)

-- the record bytes s are whole records, at most 1,024, each of a task below the number of tasks, each wait on a semaphore below 64,
-- each flag wait on a flag below 64, and no record of a joined task follows its join
pub record Records (s : List ℕ) (c : Counts) : Type 0 where
  pub whole : length s ≡ 4 * length (events_of s)
  pub few : length (events_of s) ≤ most_events
  pub named : (e : ℕ) → e < length (events_of s) → (event_in (events_of s) e).task < c.tasks
  pub waits : (e : ℕ) → e < length (events_of s) → (event_in (events_of s) e).kind ≡ wait → (event_in (events_of s) e).object < most_semaphores
  pub flag_waits : (e : ℕ) → e < length (events_of s) → (event_in (events_of s) e).kind ≡ flag_wait → (event_in (events_of s) e).object < most_flags
  pub joined : NoneAfterJoin (events_of s)

-- and the positions of their events
pub record Placed (s : List ℕ) (c : Counts) (positions : List ℕ) : Type 0 where
  pub records : Records s c
  pub kept : Positions (events_of s) positions

-- and their sources, and the chains of signals, waits and posts
pub record Prepared (s : List ℕ) (c : Counts) (positions sources chains : List ℕ) : Type 0 where
  pub placed : Placed s c positions
  pub sourced : Sources (events_of s) sources
  pub linked : Gathered s chains

-- the vector of a found event, of m numbers, lies in a list of this length
abbrev pub Inside : ℕ → ℕ → Option ℕ → Type 0
Inside m len (Some a) = a * m + m ≤ len
Inside m len None = Unit {0}

-- vector e raised to that of a found event, in a flat list
abbrev pub raised_found : ℕ → List ℕ → ℕ → Option ℕ → List ℕ
raised_found m l e (Some s) = raised_at l (e * m) (λ t. get_or l (s * m + t) 0) m
raised_found m l e None = l
