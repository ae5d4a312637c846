-- The running counts of the record check: what has come before, as numbers, so that no record is looked at twice.
-- Assumes nothing.
use Rattle.std.specs.Prelude.{ℕ, ◌+◌, ◌*◌, ◌≤◌, ◌<◌, ◌≡◌, Bool, true, ◌||◌, cond, List, leb, eqb, length, get_or}
use Rattle.model.specs.declared.Event.{Event}
use Rattle.model.specs.declared.Counts.{Counts}
use Rattle.model.specs.Numbers.{count}
use Rattle.model.specs.Recording.{join, post, flag_wait, of_task, is_on, semaphores_of, flags_of}
use Rattle.model.specs.Reading.{most_semaphores}
use Rattle.events.specs.Running.{more}

-- places for the counts of a kind: as many as a recording has semaphores, or flags, which are more than its tasks
abbrev pub places : ℕ
places = most_semaphores

-- tasks, semaphores and flags are as few as there are places
pub record Few (c : Counts) : Type 0 where
  pub tasks : c.tasks ≤ places
  pub semaphores : semaphores_of c ≤ places
  pub flags : flags_of c ≤ places

-- the kinds that are counted by object: up to 4 join, and 7 post
abbrev pub counted : ℕ → Bool
counted k = leb k join || eqb k post

abbrev pub Counted : ℕ → Type 0
Counted k = counted k ≡ true

-- an event whose task, and whose object where it names a semaphore, a task or a flag, has a place in the counts
pub record Small (v : Event) : Type 0 where
  pub task : v.task < places
  pub object : Counted v.kind → v.object < places
  pub flag : v.kind ≡ flag_wait → v.object < places

-- the place of an object among the counts of a kind, one kind after another
abbrev pub place : ℕ → ℕ → ℕ
place k x = places * k + x

-- the running state after the events `before`: `on` counts them by kind and object, and `own` by task
pub record Running (before : List Event) (on own : List ℕ) : Type 0 where
  pub wide : length on ≡ 8 * places
  pub tall : length own ≡ places
  pub counted : (k x : ℕ) → Counted k → x < places → get_or on (place k x) 0 ≡ count (is_on k x) before
  pub owned : (t : ℕ) → t < places → get_or own t 0 ≡ count (of_task t) before

-- the counts of an event can go up by one
pub record Room (on own : List ℕ) (v : Event) : Type 0 where
  pub kind : Counted v.kind → get_or on (place v.kind v.object) 0 < 65535
  pub task : get_or own v.task 0 < 65535

-- the counts after one event more
unfoldable pub noted_on : List ℕ → Event → List ℕ
noted_on on v = cond (counted v.kind) (more on (place v.kind v.object)) on

unfoldable pub noted_own : List ℕ → Event → List ℕ
noted_own own v = more own v.task
