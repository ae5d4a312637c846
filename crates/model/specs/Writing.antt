-- Writing a file (document 01, Two events, writing, printing; 02, No. 1, 5 and 6): of record bytes s, counts c, and level bytes b, or
-- start bytes b and post bytes p.
-- Assumes nothing.
use Rattle.std.specs.Prelude.{ℕ, ◌+◌, ◌*◌, ◌/◌, ◌%◌, Bool, ◌&&◌, List, [], ◌∷◌, ◌++◌, leb, eqb, length, get_or, drop, Result, Ok, Err}
use Rattle.model.specs.declared.Counts.{Counts}
use Rattle.model.specs.declared.Refusal.{Refusal}
use Rattle.model.specs.Refusals.{Check, unless, and_then, after}
use Rattle.model.specs.Numbers.{flat_map}
use Rattle.model.specs.Recording.{size, flags_of, first_fault}
use Rattle.model.specs.File.{start_count, recording_by}
use Rattle.model.specs.Reading.{known_edition, in_range, posts_up}

-- a number as two bytes, and as four
abbrev pub u16_bytes : ℕ → List ℕ
u16_bytes n = n % 256 ∷ n / 256 % 256 ∷ []

abbrev pub u32_bytes : ℕ → List ℕ
u32_bytes n = u16_bytes (n % 65536) ++ u16_bytes (n / 65536)

-- the trailer of a file with start 0
unfoldable pub trailer_bytes : ℕ → Counts → List ℕ
trailer_bytes n c =
    u32_bytes 0 ++ u32_bytes n ++ u16_bytes c.tasks ++ u16_bytes c.semaphores ++ u16_bytes c.cells ++ u16_bytes c.edition

-- the file: records, level bytes, trailer
unfoldable pub file_of : List ℕ → Counts → List ℕ → List ℕ
file_of s c b = s ++ b ++ trailer_bytes (length s / 4) c

-- its length
abbrev pub file_length : List ℕ → List ℕ → ℕ
file_length s b = length s + length b + 16

-- ---- records picked from others

-- the four bytes of record e
abbrev pub record_at : List ℕ → ℕ → List ℕ
record_at s e = get_or s (4 * e) 0 ∷ get_or s (4 * e + 1) 0 ∷ get_or s (4 * e + 2) 0 ∷ get_or s (4 * e + 3) 0 ∷ []

-- of these record bytes the records that o names, in its order
unfoldable pub records_in : List ℕ → List ℕ → List ℕ
records_in s o = flat_map (record_at s) o

-- the file of these
abbrev pub file_in : List ℕ → List ℕ → Counts → List ℕ → List ℕ
file_in s o c b = file_of (records_in s o) c b

-- ---- writing

-- the start bytes and the post bytes are as many as the edition takes
unfoldable pub levels_fit : Counts → List ℕ → List ℕ → Bool
levels_fit c b p = eqb (length b) (start_count c) && eqb (length p) (flags_of c)

-- the checks of the counts and of the lent bytes: 2, 3, 4, 13
unfoldable pub lent_check : List ℕ → Counts → List ℕ → List ℕ → Check
lent_check s c b p =
    unless (known_edition c) Refusal.Edition λ _.
    unless (eqb (length s % 4) 0) Refusal.Extent λ _.
    unless (in_range c (length s / 4)) Refusal.Count λ _.
    unless (posts_up p) Refusal.Count λ _.
    unless (levels_fit c b p) Refusal.Starts λ _.
    Ok tt

-- the checks of what the file would hold: these, then the first faulty record by 5 to 8 and 16
unfoldable pub records_check : List ℕ → Counts → List ℕ → List ℕ → Check
records_check s c b p = and_then (lent_check s c b p) λ _. let E = recording_by s c (b ++ p) in first_fault E (size E)

-- then 12
unfoldable pub writing_check : List ℕ → Counts → List ℕ → List ℕ → List ℕ → Check
writing_check s c b p out =
    and_then (records_check s c b p) λ _.
    unless (leb (file_length s (b ++ p)) (length out)) Refusal.Out λ _.
    Ok tt

abbrev pub written_by : ℕ → Check → Result ℕ Refusal
written_by n (Ok tt) = Ok n
written_by n (Err r) = Err r

-- what writing answers
unfoldable pub written_of : List ℕ → Counts → List ℕ → List ℕ → List ℕ → Result ℕ Refusal
written_of s c b p out = written_by (file_length s (b ++ p)) (writing_check s c b p out)

-- the output after writing: the file, and beyond it what was there
unfoldable pub out_after_writing : List ℕ → Counts → List ℕ → List ℕ → List ℕ → List ℕ
out_after_writing s c b p out = after (writing_check s c b p out) (λ _. file_of s c (b ++ p) ++ drop (file_length s (b ++ p)) out) out
