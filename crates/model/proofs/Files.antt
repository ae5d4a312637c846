-- What it says of a file that reading accepts it.
-- Assumes nothing.
use Prim.Native.Nat.{ℕ, ◌+◌, ◌*◌, ◌/◌, ◌≤◌}
use Rattle.std.specs.Prelude.{Ok, Err}
use mathlib.Core.Path.{◌≡◌, refl, sym, ap, ◌∙◌}
use mathlib.Core.Bool.{true, ◌&&◌}
use mathlib.Core.List.{List}
use native.Mathlib.Omega.{arith}
use lib.Dec.{leb, eqb}
use lib.ListN.{length, length-take, length-drop}
use Rattle.model.specs.declared.Counts.{Counts}
use Rattle.model.specs.declared.Trailer.{Trailer}
use Rattle.model.specs.Refusals.{Check}
use Rattle.model.specs.Recording.{size, no_event, semaphores_of, flags_of, Accepted}
use Rattle.model.specs.File.{event_at, events_of, trailer_at, trailer_of, start_count, level_count, level_bytes, record_bytes, recording_of}
use Rattle.model.specs.Reading.{last_edition, known_edition, extent_met, in_range, posts_up, file_check, reading_by, reading_of, most_tasks, most_semaphores, most_flags, most_cells, most_events}
use Rattle.model.specs.Acceptable.{InRange}
use Rattle.model.proofs.Tests.{first, second, all_three, leb-true, eqb-true}
use Rattle.model.proofs.Checks.{unless_passed}
use Rattle.model.proofs.Lists.{list_of-length}

pub in_range_lem : (c : Counts) (n : ℕ) → in_range c n ≡ true → InRange c n
unfolding in_range
in_range_lem c n h =
    let some = leb 1 c.tasks in
    let few = leb c.tasks most_tasks in
    let semaphores = leb (semaphores_of c) most_semaphores in
    let flags = leb (flags_of c) most_flags in
    let (named, cells, records) = all_three (some && few && semaphores && flags) (leb c.cells most_cells) (leb n most_events) h in
    let (tasks, s, g) = all_three (some && few) semaphores flags named in
    record {
      some_task = leb-true 1 c.tasks (first some few tasks);
      few_tasks = leb-true c.tasks most_tasks (second some few tasks);
      few_semaphores = leb-true (semaphores_of c) most_semaphores s;
      few_flags = leb-true (flags_of c) most_flags g;
      few_cells = leb-true c.cells most_cells cells;
      few_records = leb-true n most_events records;
    }

-- all that the checks of a file say
pub record Sound (f : List ℕ) : Type 0 where
  pub long : 16 ≤ length f
  pub some_edition : 1 ≤ (trailer_of f).counts.edition
  pub no_later : (trailer_of f).counts.edition ≤ last_edition
  pub extent : (trailer_of f).start + 4 * (trailer_of f).records + level_count (trailer_of f).counts + 16 ≡ length f
  pub range : InRange (trailer_of f).counts (trailer_of f).records
  pub posts : posts_up (recording_of f).levels.posts ≡ true
  pub accepted : Accepted (recording_of f)

pub sound : (f : List ℕ) → file_check f ≡ Ok tt → Sound f
unfolding file_check known_edition extent_met Accepted
sound f h =
    let (long, a) = unless_passed (leb 16 (length f)) _ _ h in
    let n = (trailer_of f).counts.edition in
    let (edition, b) = unless_passed (leb 1 n && leb n last_edition) _ _ a in
    let (extent, c) = unless_passed (eqb ((trailer_of f).start + 4 * (trailer_of f).records + level_count (trailer_of f).counts) (trailer_at f)) _ _ b in
    let (range, d) = unless_passed (in_range (trailer_of f).counts (trailer_of f).records) _ _ c in
    let (posts, e) = unless_passed (posts_up (recording_of f).levels.posts) _ _ d in
    let l = leb-true 16 (length f) long in
    let x = eqb-true ((trailer_of f).start + 4 * (trailer_of f).records + level_count (trailer_of f).counts) (trailer_at f) extent in
    record {
      long = l;
      some_edition = leb-true 1 n (first (leb 1 n) (leb n last_edition) edition);
      no_later = leb-true n last_edition (second (leb 1 n) (leb n last_edition) edition);
      extent = omega arith;
      range = in_range_lem (trailer_of f).counts (trailer_of f).records range;
      posts = posts;
      accepted = e;
    }

-- reading accepts a file exactly where its check passes
pub reading_passed : (f : List ℕ) (h : Trailer) → reading_of f ≡ Ok h → file_check f ≡ Ok tt
unfolding reading_of
reading_passed f h q = go (file_check f) q
  where
    go : (c : Check) → reading_by (trailer_of f) c ≡ Ok h → c ≡ Ok tt
    go (Ok tt) q = refl
    go (Err r) q = let z : ◌≡◌ {A = ℕ} 0 1 = cc in absurd (omega arith)

-- and answers the file's own trailer
pub trailer_read : (f : List ℕ) (h : Trailer) → reading_of f ≡ Ok h → trailer_of f ≡ h
unfolding reading_of
trailer_read f h q = let r = sym (ap (reading_by (trailer_of f)) (reading_passed f h q)) ∙ q in cc

pub accepted_recording : (f : List ℕ) (h : Trailer) → reading_of f ≡ Ok h → Accepted (recording_of f)
accepted_recording f h q = (sound f (reading_passed f h q)).accepted

-- ---- the events of record bytes

pub events_length : (s : List ℕ) → length (events_of s) ≡ length s / 4
unfolding events_of
events_length s = list_of-length (event_at s) no_event (length s / 4)

-- where start and N meet the length, the records' part has N whole records, and so many events
module _ (f : List ℕ) (met : (trailer_of f).start + 4 * (trailer_of f).records + level_count (trailer_of f).counts + 16 ≡ length f) where
  bytes_met : length (record_bytes f (trailer_of f)) ≡ 4 * (trailer_of f).records
  unfolding record_bytes
  bytes_met = simp (length-take, length-drop) (omega arith)

  pub size_met : size (recording_of f) ≡ (trailer_of f).records
  unfolding recording_of
  size_met = events_length (record_bytes f (trailer_of f)) ∙ (let l = bytes_met in omega arith)

  -- and behind them as many start bytes and post bytes as its edition takes
  levels_met : length (level_bytes f (trailer_of f)) ≡ level_count (trailer_of f).counts
  unfolding level_bytes
  levels_met = simp (length-take, length-drop) (omega arith)

  pub starts_met : length (recording_of f).levels.starts ≡ start_count (trailer_of f).counts
  unfolding recording_of level_count
  starts_met = length-take (start_count (trailer_of f).counts) (level_bytes f (trailer_of f)) ∙ (let l = levels_met in omega arith)

  pub posts_met : length (recording_of f).levels.posts ≡ flags_of (trailer_of f).counts
  unfolding recording_of level_count
  posts_met = length-drop (start_count (trailer_of f).counts) (level_bytes f (trailer_of f)) ∙ (let l = levels_met in omega arith)

pub bytes_length : (f : List ℕ) → Sound f → length (record_bytes f (trailer_of f)) ≡ 4 * (trailer_of f).records
bytes_length f s = bytes_met f s.extent

pub size_records : (f : List ℕ) → Sound f → size (recording_of f) ≡ (trailer_of f).records
size_records f s = size_met f s.extent
