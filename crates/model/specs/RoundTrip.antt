-- Writing and reading (document 01, Two events, writing, printing; 02, No. 1 and 6), as one statement.
-- Assumes nothing.
use Rattle.std.specs.Prelude.{ℕ, ◌/◌, ◌≤◌, ◌<◌, ◌≡◌, true, List, ◌++◌, length, get_or, drop, Ok}
use Rattle.model.specs.declared.Counts.{Counts}
use Rattle.model.specs.declared.Trailer.{Trailer}
use Rattle.model.specs.Reading.{file_check, reading_of, records_of, starts_of, posts_of}
use Rattle.model.specs.Writing.{levels_fit, file_of, records_check, written_of, out_after_writing}

-- every number of the list is a byte
abbrev pub Bytes : List ℕ → Type 0
Bytes f = (i : ℕ) → get_or f i 0 < 256

-- the counts and the edition fit in 16 bits and the number of records in 32
pub record Fits (s : List ℕ) (c : Counts) : Type 0 where
  pub tasks : c.tasks < 65536
  pub semaphores : c.semaphores < 65536
  pub cells : c.cells < 65536
  pub edition : c.edition < 65536
  pub records : length s / 4 < 4294967296

-- proved as `round_trip` in proofs/RoundTrip.antt
pub record RoundTrip : Type 0 where
  -- what writing leaves, and that reading it gives the same records, counts, edition, start bytes and post bytes
  pub read_written : (s : List ℕ) (c : Counts) (b p out : List ℕ) (n : ℕ) → written_of s c b p out ≡ Ok n
      → (n ≡ length (file_of s c (b ++ p))) × (out_after_writing s c b p out ≡ file_of s c (b ++ p) ++ drop n out)
      × (reading_of (file_of s c (b ++ p)) ≡ Ok (record { start = 0; records = length s / 4; counts = c }))
      × (records_of (file_of s c (b ++ p)) ≡ s) × (starts_of (file_of s c (b ++ p)) ≡ b) × (posts_of (file_of s c (b ++ p)) ≡ p)
  -- rewriting an accepted file with start 0 gives its bytes
  pub write_read : (f : List ℕ) → Bytes f → (h : Trailer) → reading_of f ≡ Ok h → h.start ≡ 0 → (out : List ℕ) → length f ≤ length out
      → (written_of (records_of f) h.counts (starts_of f) (posts_of f) out ≡ Ok (length f))
      × (out_after_writing (records_of f) h.counts (starts_of f) (posts_of f) out ≡ f ++ drop (length f) out)
  -- with as many start bytes and post bytes as the edition takes, writing refuses by 2 to 8 and 16 exactly what reading the file that
  -- it would have written refuses
  pub same_refusals : (s : List ℕ) (c : Counts) (b p : List ℕ) → levels_fit c b p ≡ true → Fits s c
      → file_check (file_of s c (b ++ p)) ≡ records_check s c b p
