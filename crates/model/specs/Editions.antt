-- What the editions say of start counts and post counts, and that a file of edition 1 or 2 means what it meant before there were
-- flags and single-instruction accesses (document 02, No. 1, 6 and 8). Proved as `editions` in proofs/Editions.antt.
-- Assumes nothing.
use Rattle.std.specs.Prelude.{ℕ, ◌≤◌, ◌<◌, ◌≡◌, Bool, false, not, cond, ◌&&◌, ◌||◌, List, [], ◌++◌, eqb, length, get_or, Ok}
use Rattle.model.specs.declared.Event.{Event}
use Rattle.model.specs.declared.Trailer.{Trailer}
use Rattle.model.specs.Numbers.{filter, found}
use Rattle.model.specs.Recording.{start_of, post_of, Recording, size, event, task_of, kind_of, object_of, wait, read, write, wait_kept, life_kept, obeys, semaphores_of, flags_of}
use Rattle.model.specs.File.{trailer_of, recording_of}
use Rattle.model.specs.Reading.{reading_of, starts_of, posts_of}
use Rattle.model.specs.Vectors.{Vectors, ordered}
use Rattle.model.specs.Passes.{sources, signals_on, k_of, needed, candidates}
use Rattle.model.specs.Recorded.{matched, causes}
use Rattle.model.specs.Pairs.{is_single, conflict}

-- an access by one of document 01's kinds
abbrev pub is_plain : Recording → ℕ → Bool
is_plain E e = eqb (kind_of E e) read || eqb (kind_of E e) write

-- a conflict as document 01 has it
abbrev pub plain_conflict : Recording → ℕ → ℕ → Bool
plain_conflict E a b =
    is_plain E a && is_plain E b && eqb (object_of E a) (object_of E b) && not (eqb (task_of E a) (task_of E b))
    && (eqb (kind_of E a) write || eqb (kind_of E b) write)

-- what is said of flags and of single-instruction accesses says nothing of this recording
pub record AsBefore (E : Recording) : Type 0 where
  -- the field counts semaphores alone, and there is no post count
  pub semaphores : semaphores_of E.counts ≡ E.counts.semaphores
  pub flags : flags_of E.counts ≡ 0
  pub posts : E.levels.posts ≡ []
  -- no event is of a later kind than a write
  pub kinds : (e : ℕ) → e < size E → kind_of E e ≤ write
  -- the rules are those of document 01
  pub rules : (before : List Event) (e : ℕ) → e < size E
      → obeys E.levels before (event E e) ≡ (life_kept before (event E e) && wait_kept E.levels before (event E e))
  -- in step 2, k and the candidates are those of a wait
  pub k : (X : Vectors) (e : ℕ) → e < size E → needed E X e ≡ cond (eqb (kind_of E e) wait) (k_of E X e (object_of E e)) 0
  pub served_by : (X : Vectors) (e : ℕ) → e < size E
      → candidates E X e ≡ filter (λ s. not (ordered E.events X e s)) (signals_on E.events (object_of E e))
  -- in the recorded run an event follows step 1's and the matched signal
  pub follows : (e : ℕ) → e < size E → causes E.levels E.events e ≡ sources E.events e ++ found (matched E.levels E.events e)
  -- no access is by a single instruction, and the conflicts are those of document 01
  pub single : (e : ℕ) → e < size E → is_single (event E e) ≡ false
  pub conflicts : (a b : ℕ) → a < size E → b < size E → conflict (event E a) (event E b) ≡ plain_conflict E a b

pub record Editions : Type 0 where
  -- in edition 1 every start count is 0
  pub first : (f : List ℕ) → (trailer_of f).counts.edition ≡ 1 → (s : ℕ) → start_of (recording_of f).levels s ≡ 0
  -- from edition 2 on an accepted file has a start byte for each semaphore
  pub starts : (f : List ℕ) (h : Trailer) → reading_of f ≡ Ok h → 2 ≤ h.counts.edition → length (starts_of f) ≡ semaphores_of h.counts
  -- an accepted file has a post byte for each flag
  pub posts : (f : List ℕ) (h : Trailer) → reading_of f ≡ Ok h → length (posts_of f) ≡ flags_of h.counts
  -- the start counts and the post counts of an accepted file are these bytes
  pub start_bytes : (f : List ℕ) (h : Trailer) → reading_of f ≡ Ok h → (s : ℕ) → start_of (recording_of f).levels s ≡ get_or (starts_of f) s 0
  pub post_bytes : (f : List ℕ) (h : Trailer) → reading_of f ≡ Ok h → (g : ℕ) → post_of (recording_of f).levels g ≡ get_or (posts_of f) g 0
  -- an accepted file of edition 1 or 2 means what it meant
  pub as_before : (f : List ℕ) (h : Trailer) → reading_of f ≡ Ok h → h.counts.edition ≤ 2 → AsBefore (recording_of f)
