-- A file is accepted exactly when its rules hold (document 01, The recording file and What an acceptable recording obeys; 02, No. 1,
-- 6 and 8). The rules are in the order of the refusal table, 1 to 8 and 16; the tests that they cite are those of reading and of admissible orders.
-- Assumes nothing.
use Rattle.std.specs.Prelude.{ℕ, ◌+◌, ◌*◌, ◌≤◌, ◌<◌, ◌≡◌, true, List, ◌↔◌, length, take, Ok}
use Rattle.model.specs.declared.Counts.{Counts}
use Rattle.model.specs.Recording.{post_of, Recording, semaphores_of, flags_of, event, known_kind, named, obeys}
use Rattle.model.specs.File.{trailer_of, level_count, recording_of}
use Rattle.model.specs.Reading.{last_edition, most_tasks, most_semaphores, most_flags, most_cells, most_events, reading_of}

-- the counts of a file with n records are within their ranges
pub record InRange (c : Counts) (n : ℕ) : Type 0 where
  -- tasks 1 to 16
  pub some_task : 1 ≤ c.tasks
  pub few_tasks : c.tasks ≤ most_tasks
  -- semaphores 0 to 64
  pub few_semaphores : semaphores_of c ≤ most_semaphores
  -- flags 0 to 64
  pub few_flags : flags_of c ≤ most_flags
  -- cells 0 to 1,024
  pub few_cells : c.cells ≤ most_cells
  -- N, the number of records, 0 to 1,024
  pub few_records : n ≤ most_events

-- what record e of a recording obeys
pub record Kept (E : Recording) (e : ℕ) : Type 0 where
  -- its kind is 1 to 6, in edition 3 1 to 10
  pub kind : known_kind E.counts (event E e) ≡ true
  -- its task and its object are below their counts
  pub names : named E.counts (event E e) ≡ true
  -- the rules, over the records before it
  pub rules : obeys E.levels (take e E.events) (event E e) ≡ true

-- the rules of a file
pub record Acceptable (f : List ℕ) : Type 0 where
  -- it has the 16 bytes of a trailer
  pub long : 16 ≤ length f
  -- its edition is 1, 2 or 3
  pub some_edition : 1 ≤ (trailer_of f).counts.edition
  pub no_later : (trailer_of f).counts.edition ≤ last_edition
  -- start + 4 × N, from edition 2 on a byte for each semaphore, and in edition 3 one for each flag, = length - 16, as whole numbers
  pub extent : (trailer_of f).start + 4 * (trailer_of f).records + level_count (trailer_of f).counts + 16 ≡ length f
  -- its counts are within their ranges
  pub range : InRange (trailer_of f).counts (trailer_of f).records
  -- no flag has the post count 0
  pub posts : (g : ℕ) → g < flags_of (trailer_of f).counts → 1 ≤ post_of (recording_of f).levels g
  -- each of its N records obeys the rules
  pub records : (e : ℕ) → e < (trailer_of f).records → Kept (recording_of f) e

-- the statement, proved as `accepted_exactly` in proofs/Acceptable.antt
abbrev pub AcceptedExactly : Type 0
AcceptedExactly = (f : List ℕ) → Acceptable f ↔ (reading_of f ≡ Ok (trailer_of f))
