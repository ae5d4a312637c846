-- What reading answers, test by test, and the parts of a file that it accepts or refuses. Assumes nothing.
use mathlib.Core.Path.{◌≡◌, refl, sym}
use Rattle.std.specs.Prelude.{Ok, Err}
use mathlib.Core.Bool.{true, false}
use mathlib.Core.List.{List, []}
use Prim.Native.Nat.{ℕ, ◌+◌, ◌*◌, ◌≤◌, ◌<◌}
use native.Mathlib.Omega.{arith}
use borrow.Author.Tests.{le-leb, lt-leb, eq-eqb, ne_eqb}
use lib.ListN.{length, take, length-take, length-drop}
use lib.Seq.{take-nil, drop-nil}
use Rattle.model.specs.declared.Counts.{Counts}
use Rattle.model.specs.declared.Trailer.{Trailer}
use Rattle.model.specs.declared.Refusal.{Refusal}
use Rattle.model.specs.Refusals.{Check}
use Rattle.model.specs.Recording.{size, first_fault}
use Rattle.model.specs.File.{trailer_at, trailer_of, events_of, record_bytes, start_count, level_count, level_bytes, levels_by, recording_by, recording_of}
use Rattle.model.specs.Reading.{known_edition, extent_met, in_range, posts_up, file_check, reading_by, reading_of, preamble_of, records_of, starts_of, posts_of}
use Rattle.model.proofs.Files.{events_length, sound, reading_passed, trailer_read}
use Rattle.recording.specs.Parts.{level_part}

-- ---- the records' part

pub part_length : (f : List ℕ) (h : Trailer) → h.start + 4 * h.records ≤ length f → length (record_bytes f h) ≡ 4 * h.records
unfolding record_bytes
part_length f h l = simp (length-take, length-drop) (omega arith)

recording_is : (f : List ℕ) → recording_of f ≡ recording_by (record_bytes f (trailer_of f)) (trailer_of f).counts (level_bytes f (trailer_of f))
unfolding recording_of
recording_is f = refl

-- the check of the records and the level bytes, s and b, that the code cuts out
same_check : (f : List ℕ) (h : Trailer) → h ≡ trailer_of f → h.start + 4 * h.records ≤ length f
    → (s b : List ℕ) → s ≡ record_bytes f h → b ≡ level_bytes f h
    → (x : Check) → x ≡ first_fault (recording_by s h.counts b) h.records
    → first_fault (recording_of f) (size (recording_of f)) ≡ x
same_check f h q l s b t u x p =
    let e = part_length f h l in
    let n : length (events_of (record_bytes f h)) ≡ h.records = omega (arith, events_length (record_bytes f h)) in
    rw (recording_is f, ← q, n, ← t, ← u) (sym p)

-- ---- the tests in their order

module _ (f : List ℕ) where
  pub refused_by : (r : Refusal) → file_check f ≡ Err r → Err r ≡ reading_of f
  unfolding reading_of
  refused_by r e = rw e

  pub accepted_by : (h : Trailer) → h ≡ trailer_of f → file_check f ≡ Ok tt → Ok h ≡ reading_of f
  unfolding reading_of
  accepted_by h q e = rw (e, q)

  pub too_short : length f < 16 → file_check f ≡ Err Refusal.Short
  unfolding file_check
  too_short a = rw (lt-leb 16 (length f) a)

  module _ (a : 16 ≤ length f) (h : Trailer) (q : h ≡ trailer_of f) where
    pub other_edition : known_edition h.counts ≡ false → file_check f ≡ Err Refusal.Edition
    unfolding file_check
    other_edition b = rw (le-leb 16 (length f) a, ← q, b)

    module _ (b : known_edition h.counts ≡ true) where
      pub no_extent : (h.start + 4 * h.records + level_count h.counts ≡ trailer_at f → ⊥) → file_check f ≡ Err Refusal.Extent
      unfolding file_check extent_met
      no_extent d = rw (le-leb 16 (length f) a, ← q, b, ne_eqb (h.start + 4 * h.records + level_count h.counts) (trailer_at f) d)

      module _ (d : h.start + 4 * h.records + level_count h.counts ≡ trailer_at f) where
        pub out_of_range : in_range h.counts h.records ≡ false → file_check f ≡ Err Refusal.Count
        unfolding file_check extent_met
        out_of_range e = rw (le-leb 16 (length f) a, ← q, b, eq-eqb (h.start + 4 * h.records + level_count h.counts) (trailer_at f) d, e)

        -- the level bytes m, and the post bytes p among them, that the code cuts out
        module _ (e : in_range h.counts h.records ≡ true) (m p : List ℕ) (u : m ≡ level_bytes f h) (v : p ≡ (levels_by h.counts m).posts) where
          same_posts : posts_up (recording_of f).levels.posts ≡ posts_up p
          same_posts = rw (recording_is f, ← q, ← u, v)

          pub not_up : posts_up p ≡ false → file_check f ≡ Err Refusal.Count
          unfolding file_check extent_met
          not_up z = rw (le-leb 16 (length f) a, ← q, b, eq-eqb (h.start + 4 * h.records + level_count h.counts) (trailer_at f) d, e, same_posts, z)

          pub by_records : posts_up p ≡ true → (s : List ℕ) → s ≡ record_bytes f h
              → (x : Check) → x ≡ first_fault (recording_by s h.counts m) h.records
              → file_check f ≡ x
          unfolding file_check extent_met
          by_records z s t x k =
              let w = same_check f h q (omega arith) s m t u x k in
              rw (le-leb 16 (length f) a, ← q, b, eq-eqb (h.start + 4 * h.records + level_count h.counts) (trailer_at f) d, e, same_posts, z) w

-- ---- an accepted file

-- reading answers a trailer only of a file whose checks pass, and then the file's
pub accepted_is : (f : List ℕ) (h : Trailer) → reading_of f ≡ Ok h → (h ≡ trailer_of f) × (file_check f ≡ Ok tt)
accepted_is f h q = (sym (trailer_read f h q), reading_passed f h q)

-- and a refusal only of a file whose checks fail with it
pub refused_is : (f : List ℕ) (r : Refusal) → reading_of f ≡ Err r → file_check f ≡ Err r
unfolding reading_of
refused_is f r q = go (file_check f) q
  where
    go : (c : Check) → reading_by (trailer_of f) c ≡ Err r → c ≡ Err r
    go (Ok tt) q = let z : ◌≡◌ {A = ℕ} 0 1 = cc in absurd (omega arith)
    go (Err x) q = cc

module _ (f : List ℕ) (h : Trailer) (q : reading_of f ≡ Ok h) where
  -- the parts end within the file
  pub within : h.start + 4 * h.records + level_count h.counts + 16 ≡ length f
  within = let (e, p) = accepted_is f h q in rw e (sound f p).extent

  pub the_preamble : take h.start f ≡ preamble_of f
  unfolding preamble_of
  the_preamble = let (e, p) = accepted_is f h q in rw (p, e)

  pub the_records : record_bytes f h ≡ records_of f
  unfolding records_of
  the_records = let (e, p) = accepted_is f h q in rw (p, e)

  pub the_levels : level_bytes f h ≡ level_part f
  unfolding level_part
  the_levels = let (e, p) = accepted_is f h q in rw (p, e)

module _ (f : List ℕ) (r : Refusal) (q : reading_of f ≡ Err r) where
  pub no_preamble : [] ≡ preamble_of f
  unfolding preamble_of
  no_preamble = rw (refused_is f r q)

  pub no_records : [] ≡ records_of f
  unfolding records_of
  no_records = rw (refused_is f r q)

  pub no_levels : [] ≡ level_part f
  unfolding level_part
  no_levels = rw (refused_is f r q)

-- ---- start bytes and post bytes: of any file, those that its level bytes give with the counts of its trailer, if it has one

module _ (f : List ℕ) (c : Counts) (own : 16 ≤ length f → c ≡ (trailer_of f).counts) where
  levels_cut : (k : Check) → file_check f ≡ k
      → ((levels_by c (level_part f)).starts ≡ starts_of f) × ((levels_by c (level_part f)).posts ≡ posts_of f)
  unfolding level_part starts_of posts_of recording_of
  levels_cut (Ok tt) p = let same = own (sound f p).long in rw (p, same) (refl, refl)
  levels_cut (Err r) p = rw p (take-nil (start_count c), drop-nil (start_count c))

  pub start_part : (levels_by c (level_part f)).starts ≡ starts_of f
  start_part = (levels_cut (file_check f) refl).0

  pub post_part : (levels_by c (level_part f)).posts ≡ posts_of f
  post_part = (levels_cut (file_check f) refl).1
