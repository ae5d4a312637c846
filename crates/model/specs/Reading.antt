-- Reading a file: refusals 1 to 8 and 16 in the table's order, the preamble, the records' part, the start bytes, and the post bytes.
-- Assumes nothing.
use Rattle.std.specs.Prelude.{ℕ, ◌+◌, ◌*◌, Bool, ◌&&◌, List, [], leb, eqb, length, take, Result, Ok, Err}
use Rattle.model.specs.declared.Counts.{Counts}
use Rattle.model.specs.declared.Trailer.{Trailer}
use Rattle.model.specs.declared.Refusal.{Refusal}
use Rattle.model.specs.Refusals.{Check, unless, after}
use Rattle.model.specs.Numbers.{count}
use Rattle.model.specs.Recording.{size, semaphores_of, flags_of, first_fault}
use Rattle.model.specs.File.{trailer_at, trailer_of, record_bytes, level_count, recording_of}

-- the last edition; the first is 1
abbrev pub last_edition : ℕ
last_edition = 3

-- a known edition, 1 to 3
unfoldable pub known_edition : Counts → Bool
known_edition c = leb 1 c.edition && leb c.edition last_edition

-- start + 4 × N + the level bytes = length - 16, as whole numbers
unfoldable pub extent_met : List ℕ → Bool
extent_met f = eqb ((trailer_of f).start + 4 * (trailer_of f).records + level_count (trailer_of f).counts) (trailer_at f)

-- the most tasks, semaphores, flags, cells and events that a recording has
abbrev pub most_tasks : ℕ
most_tasks = 16

abbrev pub most_semaphores : ℕ
most_semaphores = 64

abbrev pub most_flags : ℕ
most_flags = 64

abbrev pub most_cells : ℕ
most_cells = 1024

abbrev pub most_events : ℕ
most_events = 1024

-- tasks 1 to 16, semaphores 0 to 64, flags 0 to 64, cells 0 to 1,024, and N, the number of records, 0 to 1,024
unfoldable pub in_range : Counts → ℕ → Bool
in_range c n =
    leb 1 c.tasks && leb c.tasks most_tasks && leb (semaphores_of c) most_semaphores && leb (flags_of c) most_flags && leb c.cells most_cells
    && leb n most_events

-- no post count is 0
unfoldable pub posts_up : List ℕ → Bool
posts_up p = eqb (count (eqb 0) p) 0

-- refusals 1 to 4, then the first faulty record by 5 to 8 and 16
unfoldable pub file_check : List ℕ → Check
file_check f =
    unless (leb 16 (length f)) Refusal.Short λ _.
    unless (known_edition (trailer_of f).counts) Refusal.Edition λ _.
    unless (extent_met f) Refusal.Extent λ _.
    unless (in_range (trailer_of f).counts (trailer_of f).records) Refusal.Count λ _.
    let E = recording_of f in
    unless (posts_up E.levels.posts) Refusal.Count λ _.
    first_fault E (size E)

abbrev pub reading_by : Trailer → Check → Result Trailer Refusal
reading_by h (Ok tt) = Ok h
reading_by h (Err r) = Err r

-- what reading answers
unfoldable pub reading_of : List ℕ → Result Trailer Refusal
reading_of f = reading_by (trailer_of f) (file_check f)

-- the preamble: the part of the file before the first record; of a refused file, the empty part
unfoldable pub preamble_of : List ℕ → List ℕ
preamble_of f = after (file_check f) (λ _. take (trailer_of f).start f) []

-- the records' part of the file; of a refused file, the empty part
unfoldable pub records_of : List ℕ → List ℕ
records_of f = after (file_check f) (λ _. record_bytes f (trailer_of f)) []

-- the start bytes' part of the file; of a refused file, as of edition 1, the empty part
unfoldable pub starts_of : List ℕ → List ℕ
starts_of f = after (file_check f) (λ _. (recording_of f).levels.starts) []

-- the post bytes' part of the file; of a refused file, as of editions 1 and 2, the empty part
unfoldable pub posts_of : List ℕ → List ℕ
posts_of f = after (file_check f) (λ _. (recording_of f).levels.posts) []
