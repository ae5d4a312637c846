-- Writing and reading undo each other, for files without a preamble; and writing refuses what reading the written file would.
-- The trailer of a written file stands behind its records, so each of its fields is read off the bytes that were written.
-- Assumes nothing.
use Prim.Native.Nat.{ℕ, ◌+◌, ◌*◌, ◌/◌, ◌%◌, ◌≤◌, ◌<◌}
use Rattle.std.specs.Prelude.{Ok, Err}
use mathlib.Core.Path.{◌≡◌, refl, sym, ap, ap₂, subst, ◌∙◌}
use mathlib.Core.Bool.{true}
use mathlib.Core.List.{List, [], ◌∷◌, ◌++◌, append_assoc}
use native.Mathlib.Nat.{add_assoc, add-zero}
use native.Mathlib.Omega.{arith}
use lib.Dec.{leb, eqb}
use lib.ListN.{length, get_or, take, drop, length-append, length-take, length-drop, take-append-drop}
use lib.Seq.{get_or-append-add, get_or-drop, ext_get_or, take_at, drop_at, take-add}
use Rattle.model.specs.declared.Counts.{Counts}
use Rattle.model.specs.declared.Trailer.{Trailer}
use Rattle.model.specs.declared.Refusal.{Refusal}
use Rattle.model.specs.Refusals.{Check, unless}
use Rattle.model.specs.Numbers.{list_from, list_of}
use Rattle.model.specs.Recording.{size, semaphores_of, flags_of, has_flags, first_fault}
use Rattle.model.specs.File.{u16_at, u32_at, trailer_at, trailer_of, record_bytes, start_count, level_count, level_bytes, recording_by, recording_of}
use Rattle.model.specs.Reading.{last_edition, known_edition, extent_met, in_range, posts_up, file_check, reading_of, records_of, starts_of, posts_of}
use Rattle.model.specs.Acceptable.{InRange}
use Rattle.model.specs.Writing.{u16_bytes, u32_bytes, trailer_bytes, file_of, file_length, levels_fit, lent_check, records_check, writing_check, written_by, written_of, out_after_writing}
use Rattle.model.specs.RoundTrip.{Fits, Bytes, RoundTrip}
use Rattle.model.proofs.Tests.{cases, tests, both, first, second, leb-true, le-leb, eqb-true, eq-eqb, ne_eqb}
use Rattle.model.proofs.Checks.{unless_passed, then_passed, five_then}
use Rattle.model.proofs.Lists.{list_of-length, list_of_at}
use Rattle.model.proofs.Files.{in_range_lem, Sound, sound, reading_passed, trailer_read, bytes_length, starts_met, posts_met}

-- ---- numbers behind the records

u16_after : (s m : List ℕ) (i : ℕ) → u16_at (s ++ m) (length s + i) ≡ u16_at m i
unfolding u16_at
u16_after s m i =
    ap₂ (λ (a b : ℕ). a + 256 * b) (get_or-append-add s m i 0)
    (ap (λ (j : ℕ). get_or (s ++ m) j 0) (add_assoc (length s) i 1) ∙ get_or-append-add s m (i + 1) 0)

u32_after : (s m : List ℕ) (i : ℕ) → u32_at (s ++ m) (length s + i) ≡ u32_at m i
unfolding u32_at
u32_after s m i =
    ap₂ (λ (a b : ℕ). a + 65536 * b) (u16_after s m i)
    (ap (u16_at (s ++ m)) (add_assoc (length s) i 2) ∙ u16_after s m (i + 2))

-- the field of semaphores and flags fits in 16 bits
field_fits : (c : Counts) → semaphores_of c ≤ 64 → flags_of c ≤ 64 → c.semaphores < 65536
unfolding semaphores_of flags_of
field_fits c few flags =
    cases (has_flags c) (λ t. let high : c.semaphores / 256 ≤ 64 = rw t at flags in omega arith)
    (λ t. let all : c.semaphores ≤ 64 = rw t at few in omega arith)

-- counts within their ranges, and a known edition, fit
fits_by : (s : List ℕ) (c : Counts) → c.edition ≤ last_edition → InRange c (length s / 4) → Fits s c
fits_by s c known r =
    record {
      tasks = omega (arith, r.few_tasks);
      semaphores = field_fits c r.few_semaphores r.few_flags;
      cells = omega (arith, r.few_cells);
      edition = omega arith;
      records = omega (arith, r.few_records);
    }

-- and so do those of a file that reading accepts
fits_of : (f : List ℕ) → Sound f → Fits (record_bytes f (trailer_of f)) (trailer_of f).counts
fits_of f ok =
    let l = bytes_length f ok in
    fits_by (record_bytes f (trailer_of f)) (trailer_of f).counts ok.no_later
    (subst (InRange (trailer_of f).counts) (let n : (trailer_of f).records ≡ length (record_bytes f (trailer_of f)) / 4 = omega arith in n) ok.range)

abbrev trailer : ℕ → ℕ → ℕ → ℕ → ℕ → ℕ → Trailer
trailer a n t s c e = record { start = a; records = n; counts = record { tasks = t; semaphores = s; cells = c; edition = e } }

same_trailer : {a b n m t u s v c w e d : ℕ} → a ≡ b → n ≡ m → t ≡ u → s ≡ v → c ≡ w → e ≡ d → trailer a n t s c e ≡ trailer b m u v w d
same_trailer {a} {b} {n} {m} {t} {u} {s} {v} {c} {w} {e} {d} p q r x y z =
    ap₂ (λ (i j : ℕ). trailer i j t s c e) p q ∙ ap₂ (λ (i j : ℕ). trailer b m i j c e) r x ∙ ap₂ (λ (i j : ℕ). trailer b m u v i j) y z

module _ (s : List ℕ) (c : Counts) (b : List ℕ) where
  behind_records : file_of s c b ≡ s ++ (b ++ trailer_bytes (length s / 4) c)
  unfolding file_of
  behind_records = append_assoc s b (trailer_bytes (length s / 4) c)

  pub file_length_lem : length (file_of s c b) ≡ file_length s b
  unfolding file_of trailer_bytes
  file_length_lem = length-append (s ++ b) (trailer_bytes (length s / 4) c) ∙ ap (λ (n : ℕ). n + 16) (length-append s b)

  trailer_place : (i : ℕ) → trailer_at (file_of s c b) + i ≡ length (s ++ b) + i
  trailer_place i = let l = file_length_lem in let n = length-append s b in omega arith

  -- what stands at place i of the trailer
  u16_trailer : (i : ℕ) → u16_at (file_of s c b) (trailer_at (file_of s c b) + i) ≡ u16_at (trailer_bytes (length s / 4) c) i
  unfolding file_of
  u16_trailer i = ap (u16_at (file_of s c b)) (trailer_place i) ∙ u16_after (s ++ b) (trailer_bytes (length s / 4) c) i

  u32_trailer : (i : ℕ) → u32_at (file_of s c b) (trailer_at (file_of s c b) + i) ≡ u32_at (trailer_bytes (length s / 4) c) i
  unfolding file_of
  u32_trailer i = ap (u32_at (file_of s c b)) (trailer_place i) ∙ u32_after (s ++ b) (trailer_bytes (length s / 4) c) i

  module _ (fits : Fits s c) where
    -- the trailer that reading finds
    pub written_trailer : trailer_of (file_of s c b) ≡ record { start = 0; records = length s / 4; counts = c }
    unfolding trailer_of trailer_bytes u16_at u32_at
    written_trailer =
        let f = file_of s c b in
        same_trailer (ap (u32_at f) (sym (add-zero (trailer_at f))) ∙ u32_trailer 0) (u32_trailer 4 ∙ omega (arith, fits.records))
        (u16_trailer 8 ∙ omega (arith, fits.tasks)) (u16_trailer 10 ∙ omega (arith, fits.semaphores)) (u16_trailer 12 ∙ omega (arith, fits.cells))
        (u16_trailer 14 ∙ omega (arith, fits.edition))

    -- its records' part
    pub written_bytes : length s % 4 ≡ 0 → record_bytes (file_of s c b) (trailer_of (file_of s c b)) ≡ s
    unfolding record_bytes
    written_bytes whole =
        ap (record_bytes (file_of s c b)) written_trailer ∙ ap (take (4 * (length s / 4))) behind_records
        ∙ take_at s (b ++ trailer_bytes (length s / 4) c) (4 * (length s / 4)) (omega arith)

    module _ (as_many : length b ≡ level_count c) where
      -- its level bytes
      pub written_levels : length s % 4 ≡ 0 → level_bytes (file_of s c b) (trailer_of (file_of s c b)) ≡ b
      unfolding level_bytes
      written_levels whole =
          let behind = trailer_bytes (length s / 4) c in
          ap (level_bytes (file_of s c b)) written_trailer
          ∙ ap (take (level_count c)) (ap (drop (0 + 4 * (length s / 4))) behind_records ∙ drop_at s (b ++ behind) (0 + 4 * (length s / 4)) (omega arith))
          ∙ take_at b behind (level_count c) as_many

      -- its extent is met exactly where the record bytes are whole records
      written_extent : extent_met (file_of s c b) ≡ eqb (length s % 4) 0
      unfolding extent_met
      written_extent =
          let f = file_of s c b in
          let l = file_length_lem in
          let n = as_many in
          ap (λ (x : Trailer). eqb (x.start + 4 * x.records + level_count x.counts) (trailer_at f)) written_trailer
          ∙ cases (eqb (length s % 4) 0) (λ t. eq-eqb (0 + 4 * (length s / 4) + level_count c) (trailer_at f) (omega tests) ∙ sym t)
          (λ t. ne_eqb (0 + 4 * (length s / 4) + level_count c) (trailer_at f) (λ q. omega tests) ∙ sym t)

-- ---- start bytes and post bytes, one after the other

module _ (c : Counts) (b p : List ℕ) (fit : levels_fit c b p ≡ true) where
  starts_many : length b ≡ start_count c
  unfolding levels_fit
  starts_many = eqb-true (length b) (start_count c) (first (eqb (length b) (start_count c)) _ fit)

  posts_many : length p ≡ flags_of c
  unfolding levels_fit
  posts_many = eqb-true (length p) (flags_of c) (second (eqb (length b) (start_count c)) _ fit)

  levels_many : length (b ++ p) ≡ level_count c
  unfolding level_count
  levels_many = length-append b p ∙ ap₂ (λ (m n : ℕ). m + n) starts_many posts_many

  -- are told apart again
  first_starts : take (start_count c) (b ++ p) ≡ b
  first_starts = take_at b p (start_count c) starts_many

  then_posts : drop (start_count c) (b ++ p) ≡ p
  then_posts = drop_at b p (start_count c) starts_many

-- the checks of what is lent and of the records, in one row
pub records_checks : (s : List ℕ) (c : Counts) (b p : List ℕ)
    → records_check s c b p
    ≡ unless (known_edition c) Refusal.Edition λ _.
    unless (eqb (length s % 4) 0) Refusal.Extent λ _.
    unless (in_range c (length s / 4)) Refusal.Count λ _.
    unless (posts_up p) Refusal.Count λ _.
    unless (levels_fit c b p) Refusal.Starts λ _.
    let E = recording_by s c (b ++ p) in first_fault E (size E)
unfolding records_check lent_check
records_checks s c b p = five_then (known_edition c) _ (eqb (length s % 4) 0) _ (in_range c (length s / 4)) _ (posts_up p) _ (levels_fit c b p) _ _

-- what writing refuses is exactly what reading the file it would have written refuses
same_check : (s : List ℕ) (c : Counts) (b p : List ℕ) → Fits s c → levels_fit c b p ≡ true → file_check (file_of s c (b ++ p)) ≡ records_check s c b p
unfolding file_check recording_of
same_check s c b p fits fit =
    let f = file_of s c (b ++ p) in
    let l = file_length_lem s c (b ++ p) in
    let many = levels_many c b p fit in
    let long : leb 16 (length f) ≡ true = le-leb 16 (length f) (omega arith) in
    let extent = written_extent s c (b ++ p) fits many in
    let trailer = written_trailer s c (b ++ p) fits in
    let up = ap posts_up (then_posts c b p fit) in
    cases (eqb (length s % 4) 0)
    (λ t.
    let w = eqb-true _ _ t in
    rw (long, extent, written_bytes s c (b ++ p) fits w, written_levels s c (b ++ p) fits many w, trailer, up, records_checks s c b p, t, fit))
    (λ t. rw (long, extent, trailer, records_checks s c b p, t))

-- a file written from records that pass is accepted, and holds them, its start bytes and post bytes, and the recording that it was
-- written from
pub written_accepted : (s : List ℕ) (c : Counts) (b p : List ℕ) → records_check s c b p ≡ Ok tt
    → let f = file_of s c (b ++ p) in (reading_of f ≡ Ok (record { start = 0; records = length s / 4; counts = c }))
    × (records_of f ≡ s) × (starts_of f ≡ b) × (posts_of f ≡ p) × (recording_of f ≡ recording_by s c (b ++ p))
unfolding records_check lent_check known_edition reading_of records_of starts_of posts_of recording_of
written_accepted s c b p checked =
    let (lent, _) = then_passed (lent_check s c b p) _ checked in
    let (edition, d) = unless_passed (known_edition c) _ _ lent in
    let (whole, e) = unless_passed (eqb (length s % 4) 0) _ _ d in
    let (range, g) = unless_passed (in_range c (length s / 4)) _ _ e in
    let (_, h) = unless_passed (posts_up p) _ _ g in
    let (fit, _) = unless_passed (levels_fit c b p) _ _ h in
    let divided = eqb-true (length s % 4) 0 whole in
    let fits = fits_by s c (leb-true c.edition last_edition (second (leb 1 c.edition) _ edition)) (in_range_lem c (length s / 4) range) in
    let same : file_check (file_of s c (b ++ p)) ≡ Ok tt = same_check s c b p fits fit ∙ checked in
    let trailer = written_trailer s c (b ++ p) fits in
    let records = written_bytes s c (b ++ p) fits divided in
    let levels = written_levels s c (b ++ p) fits (levels_many c b p fit) divided in
    (rw (same, trailer), rw (same, records), rw (same, levels, trailer) (first_starts c b p fit), rw (same, levels, trailer) (then_posts c b p fit), rw (records, levels, trailer))

-- ---- writing what was read

listed_all : (m : List ℕ) → m ≡ list_of (λ i. get_or m i 0) (length m)
listed_all m =
    ext_get_or 0 m (list_of (λ i. get_or m i 0) (length m)) (sym (list_of-length (λ i. get_or m i 0) 0 (length m)))
    (λ i h. sym (list_of_at (λ i. get_or m i 0) 0 (length m) i h))

-- two bytes from the number that they make, and four
pair_back : (a b : ℕ) → a < 256 → b < 256 → u16_bytes (a + 256 * b) ≡ a ∷ b ∷ []
pair_back a b p q =
    let x : (a + 256 * b) % 256 ≡ a = omega arith in
    let y : (a + 256 * b) / 256 ≡ b = omega arith in
    let z : b % 256 ≡ b = omega arith in
    rw (x, y, z)

four_back : (a b c d : ℕ) → a < 256 → b < 256 → c < 256 → d < 256 → u32_bytes (a + 256 * b + 65536 * (c + 256 * d)) ≡ a ∷ b ∷ c ∷ d ∷ []
four_back a b c d p q r s =
    let x : (a + 256 * b + 65536 * (c + 256 * d)) % 65536 ≡ a + 256 * b = omega arith in
    let y : (a + 256 * b + 65536 * (c + 256 * d)) / 65536 ≡ c + 256 * d = omega arith in
    ap₂ (λ (i j : ℕ). u16_bytes i ++ u16_bytes j) x y ∙ ap₂ (λ (k l : List ℕ). k ++ l) (pair_back a b p q) (pair_back c d r s)

-- a trailer with start 0 is that of its own numbers
trailer_back : (m : List ℕ) → length m ≡ 16 → Bytes m → u32_at m 0 ≡ 0
    → trailer_bytes (u32_at m 4) (record { tasks = u16_at m 8; semaphores = u16_at m 10; cells = u16_at m 12; edition = u16_at m 14 }) ≡ m
unfolding trailer_bytes u16_at u32_at list_from
trailer_back m n bytes start =
    let a = four_back (get_or m 0 0) (get_or m 1 0) (get_or m 2 0) (get_or m 3 0) (bytes 0) (bytes 1) (bytes 2) (bytes 3) in
    let b = four_back (get_or m 4 0) (get_or m 5 0) (get_or m 6 0) (get_or m 7 0) (bytes 4) (bytes 5) (bytes 6) (bytes 7) in
    let c = pair_back (get_or m 8 0) (get_or m 9 0) (bytes 8) (bytes 9) in
    let d = pair_back (get_or m 10 0) (get_or m 11 0) (bytes 10) (bytes 11) in
    let e = pair_back (get_or m 12 0) (get_or m 13 0) (bytes 12) (bytes 13) in
    let g = pair_back (get_or m 14 0) (get_or m 15 0) (bytes 14) (bytes 15) in
    ap₂ (λ (k l : List ℕ). k ++ u32_bytes (u32_at m 4) ++ u16_bytes (u16_at m 8) ++ u16_bytes (u16_at m 10) ++ u16_bytes (u16_at m 12) ++ l)
    (ap u32_bytes (sym start) ∙ a) g
    ∙ ap₂ (λ (k l : List ℕ). (get_or m 0 0 ∷ get_or m 1 0 ∷ get_or m 2 0 ∷ get_or m 3 0 ∷ []) ++ k ++ l ++ u16_bytes (u16_at m 10) ++ u16_bytes (u16_at m 12) ++ (get_or m 14 0 ∷ get_or m 15 0 ∷ [])) b c
    ∙ ap₂ (λ (k l : List ℕ). (get_or m 0 0 ∷ get_or m 1 0 ∷ get_or m 2 0 ∷ get_or m 3 0 ∷ get_or m 4 0 ∷ get_or m 5 0 ∷ get_or m 6 0 ∷ get_or m 7 0 ∷ get_or m 8 0 ∷ get_or m 9 0 ∷ []) ++ k ++ l ++ (get_or m 14 0 ∷ get_or m 15 0 ∷ [])) d e
    ∙ sym (listed_all m ∙ ap (list_of (λ i. get_or m i 0)) n)

-- numbers read behind the first n
drop_after : (f : List ℕ) (n : ℕ) → n ≤ length f → (i : ℕ) → u16_at f (n + i) ≡ u16_at (drop n f) i
drop_after f n h i =
    let l : length (take n f) ≡ n = simp length-take (omega arith) in
    ap₂ (λ (g : List ℕ) (k : ℕ). u16_at g (k + i)) (sym (take-append-drop n f)) (sym l) ∙ u16_after (take n f) (drop n f) i

drop_after_four : (f : List ℕ) (n : ℕ) → n ≤ length f → (i : ℕ) → u32_at f (n + i) ≡ u32_at (drop n f) i
unfolding u32_at
drop_after_four f n h i =
    ap₂ (λ (a b : ℕ). a + 65536 * b) (drop_after f n h i) (ap (u16_at f) (add_assoc n i 2) ∙ drop_after f n h (i + 2))

module _ (f : List ℕ) (bytes : Bytes f) (ok : Sound f) (none : (trailer_of f).start ≡ 0) where
  tail_length : length (drop (trailer_at f) f) ≡ 16
  tail_length = let long = ok.long in simp length-drop (omega arith)

  tail_bytes : Bytes (drop (trailer_at f) f)
  tail_bytes i = subst (λ (b : ℕ). b < 256) (sym (get_or-drop (trailer_at f) f i 0)) (bytes (trailer_at f + i))

  own_trailer : trailer_bytes (trailer_of f).records (trailer_of f).counts ≡ drop (trailer_at f) f
  unfolding trailer_of
  own_trailer =
      let long = ok.long in
      let inside : trailer_at f ≤ length f = omega arith in
      let at = drop_after f (trailer_at f) inside in
      let four = drop_after_four f (trailer_at f) inside in
      ap (λ (x : Trailer). trailer_bytes x.records x.counts) (same_trailer (ap (u32_at f) (sym (add-zero (trailer_at f)))) (four 4) (at 8) (at 10) (at 12) (at 14))
      ∙ trailer_back (drop (trailer_at f) f) tail_length tail_bytes
      (sym (ap (u32_at f) (sym (add-zero (trailer_at f))) ∙ four 0) ∙ none)

  own_front : record_bytes f (trailer_of f) ++ level_bytes f (trailer_of f) ≡ take (trailer_at f) f
  unfolding record_bytes level_bytes
  own_front =
      let x = ok.extent in
      let n = 4 * (trailer_of f).records in
      let k = level_count (trailer_of f).counts in
      ap₂ (λ (a b : List ℕ). a ++ b) (ap (λ (i : ℕ). take n (drop i f)) none)
      (ap (λ (i : ℕ). take k (drop i f)) (let m : (trailer_of f).start + n ≡ n = omega arith in m))
      ∙ sym (take-add n k f) ∙ ap (λ (i : ℕ). take i f) (let m : n + k ≡ trailer_at f = omega arith in m)

  -- the file written from its records, counts and level bytes is the file
  pub written_again : file_of (record_bytes f (trailer_of f)) (trailer_of f).counts (level_bytes f (trailer_of f)) ≡ f
  unfolding file_of
  written_again =
      let l = bytes_length f ok in
      let n : length (record_bytes f (trailer_of f)) / 4 ≡ (trailer_of f).records = omega arith in
      ap₂ (λ (r : List ℕ) (m : ℕ). r ++ trailer_bytes m (trailer_of f).counts) own_front n
      ∙ ap (λ (r : List ℕ). take (trailer_at f) f ++ r) own_trailer ∙ take-append-drop (trailer_at f) f

-- the start bytes and the post bytes of a file that reading accepts are as many as its edition takes
pub own_levels : (f : List ℕ) → Sound f → levels_fit (trailer_of f).counts (recording_of f).levels.starts (recording_of f).levels.posts ≡ true
unfolding levels_fit
own_levels f ok = both (eq-eqb _ _ (starts_met f ok.extent)) (eq-eqb _ _ (posts_met f ok.extent))

-- and together are its level bytes
pub own_joined : (f : List ℕ) → (recording_of f).levels.starts ++ (recording_of f).levels.posts ≡ level_bytes f (trailer_of f)
unfolding recording_of
own_joined f = take-append-drop (start_count (trailer_of f).counts) (level_bytes f (trailer_of f))

-- ---- the theorems

-- writing answers a length only where its check passes
pub written_by_lem : (k : Check) (m n : ℕ) → written_by m k ≡ Ok n → (k ≡ Ok tt) × (n ≡ m)
written_by_lem (Ok tt) m n q = (refl, cc)
written_by_lem (Err r) m n q = let z : ◌≡◌ {A = ℕ} 0 1 = cc in absurd (omega arith)

read_written : (s : List ℕ) (c : Counts) (b p out : List ℕ) (n : ℕ) → written_of s c b p out ≡ Ok n
    → (n ≡ length (file_of s c (b ++ p))) × (out_after_writing s c b p out ≡ file_of s c (b ++ p) ++ drop n out)
    × (reading_of (file_of s c (b ++ p)) ≡ Ok (record { start = 0; records = length s / 4; counts = c }))
    × (records_of (file_of s c (b ++ p)) ≡ s) × (starts_of (file_of s c (b ++ p)) ≡ b) × (posts_of (file_of s c (b ++ p)) ≡ p)
unfolding written_of writing_check out_after_writing
read_written s c b p out n q =
    let (passed, long) = written_by_lem (writing_check s c b p out) (file_length s (b ++ p)) n q in
    let (checked, _) = then_passed (records_check s c b p) _ passed in
    let (accepted, records, starts, posts, _) = written_accepted s c b p checked in
    (long ∙ sym (file_length_lem s c (b ++ p)), rw (passed, long), accepted, records, starts, posts)

write_read : (f : List ℕ) → Bytes f → (h : Trailer) → reading_of f ≡ Ok h → h.start ≡ 0 → (out : List ℕ) → length f ≤ length out
    → (written_of (records_of f) h.counts (starts_of f) (posts_of f) out ≡ Ok (length f))
    × (out_after_writing (records_of f) h.counts (starts_of f) (posts_of f) out ≡ f ++ drop (length f) out)
unfolding records_of starts_of posts_of reading_of written_of out_after_writing writing_check
write_read f bytes h q none out room =
    let passed = reading_passed f h q in
    let ok = sound f passed in
    let own = trailer_read f h q in
    let s = record_bytes f (trailer_of f) in
    let c = (trailer_of f).counts in
    let b = (recording_of f).levels.starts in
    let p = (recording_of f).levels.posts in
    let again : file_of s c (b ++ p) ≡ f = ap (file_of s c) (own_joined f) ∙ written_again f bytes ok (ap (λ (x : Trailer). x.start) own ∙ none) in
    let n = sym (file_length_lem s c (b ++ p)) ∙ ap length again in
    let checked : records_check s c b p ≡ Ok tt = sym (same_check s c b p (fits_of f ok) (own_levels f ok)) ∙ ap file_check again ∙ passed in
    let roomy : leb (file_length s (b ++ p)) (length out) ≡ true = le-leb (file_length s (b ++ p)) (length out) (omega arith) in
    rw (passed, sym own, checked, roomy, n, again) (refl, refl)

pub round_trip : RoundTrip
round_trip = record { read_written = read_written; write_read = write_read; same_refusals = λ s c b p fit fits. same_check s c b p fits fit }
