-- The recording file (document 01, The recording file; 02, No. 1 and 6): a preamble, records of 4 bytes, from edition 2 on a byte for
-- each semaphore, in edition 3 a byte for each flag, a trailer of 16 bytes.
-- Numbers are little-endian. Past the end of a list of bytes a byte counts as 0.
-- Assumes nothing.
use Rattle.std.specs.Prelude.{ℕ, ◌+◌, ◌-◌, ◌*◌, ◌/◌, cond, List, eqb, length, get_or, take, drop}
use Rattle.model.specs.declared.Event.{Event}
use Rattle.model.specs.declared.Counts.{Counts}
use Rattle.model.specs.declared.Trailer.{Trailer}
use Rattle.model.specs.Numbers.{list_of}
use Rattle.model.specs.Recording.{Levels, Recording, semaphores_of, flags_of}

-- the number of two bytes at i
unfoldable pub u16_at : List ℕ → ℕ → ℕ
u16_at s i = get_or s i 0 + 256 * get_or s (i + 1) 0

-- the number of four bytes at i
unfoldable pub u32_at : List ℕ → ℕ → ℕ
u32_at s i = u16_at s i + 65536 * u16_at s (i + 2)

-- a record: task (1), kind (1), object (2)
unfoldable pub event_at : List ℕ → ℕ → Event
event_at s e = record { task = get_or s (4 * e) 0; kind = get_or s (4 * e + 1) 0; object = u16_at s (4 * e + 2) }

-- the whole records of record bytes
unfoldable pub events_of : List ℕ → List Event
events_of s = list_of (event_at s) (length s / 4)

-- where the trailer starts
abbrev pub trailer_at : List ℕ → ℕ
trailer_at f = length f - 16

-- the trailer: start (4), N (4), tasks (2), semaphores and flags (2), cells (2), edition (2)
unfoldable pub trailer_of : List ℕ → Trailer
trailer_of f =
    record {
      start = u32_at f (trailer_at f);
      records = u32_at f (trailer_at f + 4);
      counts =
          record {
            tasks = u16_at f (trailer_at f + 8);
            semaphores = u16_at f (trailer_at f + 10);
            cells = u16_at f (trailer_at f + 12);
            edition = u16_at f (trailer_at f + 14);
          };
    }

-- the records' part of a file with this trailer
unfoldable pub record_bytes : List ℕ → Trailer → List ℕ
record_bytes f h = take (4 * h.records) (drop h.start f)

-- how many start bytes a file has: in edition 1 none, from edition 2 on one for each semaphore
unfoldable pub start_count : Counts → ℕ
start_count c = cond (eqb c.edition 1) 0 (semaphores_of c)

-- how many level bytes stand between the last record and the trailer: the start bytes, then a post byte for each flag
unfoldable pub level_count : Counts → ℕ
level_count c = start_count c + flags_of c

-- that part of a file with this trailer
unfoldable pub level_bytes : List ℕ → Trailer → List ℕ
level_bytes f h = take (level_count h.counts) (drop (h.start + 4 * h.records) f)

-- the levels that these bytes give
abbrev pub levels_by : Counts → List ℕ → Levels
levels_by c b = record { starts = take (start_count c) b; posts = drop (start_count c) b }

-- the recording of these record bytes, counts and level bytes
abbrev pub recording_by : List ℕ → Counts → List ℕ → Recording
recording_by s c b = record { counts = c; levels = levels_by c b; events = events_of s }

-- the recording that a file holds
unfoldable pub recording_of : List ℕ → Recording
recording_of f = recording_by (record_bytes f (trailer_of f)) (trailer_of f).counts (level_bytes f (trailer_of f))
