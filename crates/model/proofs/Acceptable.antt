-- A file is accepted exactly when its rules hold.
-- Assumes nothing.
use Prim.Native.Nat.{ℕ, zero, suc, ◌+◌, ◌*◌, ◌≤◌, ◌<◌}
use Rattle.std.specs.Prelude.{Ok}
use mathlib.Core.Path.{◌≡◌, refl}
use mathlib.Core.Bool.{true}
use mathlib.Core.List.{List, [], ◌∷◌}
use native.Mathlib.Nat.{le_of_suc-le-suc, not-suc-le-zero}
use native.Mathlib.Omega.{arith}
use lib.Dec.{leb, eqb}
use lib.ListN.{length, get_or}
use Rattle.model.specs.declared.Counts.{Counts}
use Rattle.model.specs.Numbers.{count}
use Rattle.model.specs.Recording.{Accepted}
use Rattle.model.specs.File.{trailer_at, trailer_of, level_count, recording_of}
use Rattle.model.specs.Reading.{last_edition, known_edition, extent_met, in_range, posts_up, file_check, reading_of}
use Rattle.model.specs.Acceptable.{InRange, Acceptable, AcceptedExactly}
use Rattle.model.proofs.Tests.{cases, tests, both, le-leb, eqb-true, eq-eqb, ne_eqb}
use Rattle.model.proofs.Accept.{kept_at, kept_accepted}
use Rattle.model.proofs.Files.{sound, reading_passed, size_met, posts_met, size_records}

-- ---- what keeps the rules is accepted

pub ranged : (c : Counts) (n : ℕ) → InRange c n → in_range c n ≡ true
unfolding in_range
ranged c n r =
    both
    (both (both (both (both (le-leb _ _ r.some_task) (le-leb _ _ r.few_tasks)) (le-leb _ _ r.few_semaphores)) (le-leb _ _ r.few_flags))
    (le-leb _ _ r.few_cells))
    (le-leb _ _ r.few_records)

pub known : (c : Counts) → 1 ≤ c.edition → c.edition ≤ last_edition → known_edition c ≡ true
unfolding known_edition
known c some later = both (le-leb _ _ some) (le-leb _ _ later)

-- no post count is 0 where each is at least 1
all_up : (p : List ℕ) → ((g : ℕ) → g < length p → 1 ≤ get_or p g 0) → count (eqb 0) p ≡ 0
unfolding count
all_up [] h = refl
all_up (x ∷ p) h =
    let here = h 0 (omega arith) in
    let rest = all_up p (λ g l. h (suc g) (omega arith)) in
    let up = ne_eqb 0 x (λ q. omega arith) in
    rw (up, rest)

each_up : (p : List ℕ) → count (eqb 0) p ≡ 0 → (g : ℕ) → g < length p → 1 ≤ get_or p g 0
unfolding count
each_up [] q g l = absurd (not-suc-le-zero l)
each_up (x ∷ p) q zero l = cases (eqb 0 x) (λ t. let z : 1 + count (eqb 0) p ≡ 0 = rw t at q in absurd (omega arith)) (λ t. omega tests)
each_up (x ∷ p) q (suc g) l = each_up p (omega arith) g (le_of_suc-le-suc l)

passes : (f : List ℕ) → Acceptable f → file_check f ≡ Ok tt
unfolding file_check extent_met posts_up Accepted
passes f a =
    let E = recording_of f in
    let met = a.extent in
    let n = size_met f met in
    let long : leb 16 (length f) ≡ true = le-leb 16 (length f) a.long in
    let edition = known (trailer_of f).counts a.some_edition a.no_later in
    let extent : eqb ((trailer_of f).start + 4 * (trailer_of f).records + level_count (trailer_of f).counts) (trailer_at f) ≡ true =
    eq-eqb ((trailer_of f).start + 4 * (trailer_of f).records + level_count (trailer_of f).counts) (trailer_at f) (omega arith) in
    let p = E.levels.posts in
    let few = posts_met f met in
    let up = eq-eqb (count (eqb 0) p) 0 (all_up p (λ g l. a.posts g (omega arith))) in
    rw (long, edition, extent, ranged _ _ a.range, up) (kept_accepted E (λ e l. a.records e (omega arith)))

-- ---- what is accepted keeps the rules

keeps : (f : List ℕ) → file_check f ≡ Ok tt → Acceptable f
unfolding posts_up
keeps f q =
    let s = sound f q in
    let n = size_records f s in
    let p = (recording_of f).levels.posts in
    let few = posts_met f s.extent in
    record {
      long = s.long;
      some_edition = s.some_edition;
      no_later = s.no_later;
      extent = s.extent;
      range = s.range;
      posts = λ g l. each_up p (eqb-true (count (eqb 0) p) 0 s.posts) g (omega arith);
      records = λ e l. kept_at (recording_of f) s.accepted e (omega arith);
    }

-- ---- the theorem

pub accepted_exactly : AcceptedExactly
unfolding reading_of
accepted_exactly f = (λ a. rw (passes f a), λ q. keeps f (reading_passed f (trailer_of f) q))
