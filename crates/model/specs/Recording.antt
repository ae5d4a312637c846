-- A recording, the rules, and the first faulty record (document 01, What an acceptable recording obeys; 02, No. 1, 6 and 8).
-- Assumes nothing.
use Rattle.std.specs.Prelude.{ℕ, zero, suc, ◌+◌, ◌/◌, ◌%◌, ◌≡◌, Bool, true, false, cond, not, ◌&&◌, List, [], ◌∷◌, ltb, leb, eqb, length, take, get_or, Ok, Option, Some, None}
use Rattle.model.specs.declared.Event.{Event}
use Rattle.model.specs.declared.Counts.{Counts}
use Rattle.model.specs.declared.Class.{Class}
use Rattle.model.specs.declared.Refusal.{Refusal}
use Rattle.model.specs.Refusals.{Check, unless, and_then}
use Rattle.model.specs.Numbers.{count}

-- what a file gives for each semaphore, its start count, and for each flag, its post count
pub record Levels : Type 0 where
  pub starts : List ℕ
  pub posts : List ℕ

-- the start count of semaphore s; 0 where none is given, as in edition 1
abbrev pub start_of : Levels → ℕ → ℕ
start_of x s = get_or x.starts s 0

-- the post count of flag g; 0 where none is given
abbrev pub post_of : Levels → ℕ → ℕ
post_of x g = get_or x.posts g 0

-- a recording: how many tasks, semaphores, flags and cells it names, its levels, and its events in file order
pub record Recording : Type 0 where
  pub counts : Counts
  pub levels : Levels
  pub events : List Event

-- N, T and the number of cells
abbrev pub size : Recording → ℕ
size E = length E.events

abbrev pub tasks : Recording → ℕ
tasks E = E.counts.tasks

abbrev pub cells : Recording → ℕ
cells E = E.counts.cells

-- the edition that has flags
abbrev pub with_flags : ℕ
with_flags = 3

abbrev pub has_flags : Counts → Bool
has_flags c = eqb c.edition with_flags

-- the semaphores and the flags: with flags, the low and the high byte of one field
unfoldable pub semaphores_of : Counts → ℕ
semaphores_of c = cond (has_flags c) (c.semaphores % 256) c.semaphores

unfoldable pub flags_of : Counts → ℕ
flags_of c = cond (has_flags c) (c.semaphores / 256) 0

abbrev pub no_event : Event
no_event = record { task = 0; kind = 0; object = 0 }

-- event e is record e
abbrev pub event_in : List Event → ℕ → Event
event_in l e = get_or l e no_event

abbrev pub event : Recording → ℕ → Event
event E e = event_in E.events e

abbrev pub task_of : Recording → ℕ → ℕ
task_of E e = (event E e).task

abbrev pub kind_of : Recording → ℕ → ℕ
kind_of E e = (event E e).kind

abbrev pub object_of : Recording → ℕ → ℕ
object_of E e = (event E e).object

-- ---- kinds

abbrev pub signal : ℕ
signal = 1

abbrev pub wait : ℕ
wait = 2

abbrev pub fork : ℕ
fork = 3

abbrev pub join : ℕ
join = 4

abbrev pub read : ℕ
read = 5

abbrev pub write : ℕ
write = 6

abbrev pub post : ℕ
post = 7

abbrev pub flag_wait : ℕ
flag_wait = 8

-- a read and a write by the processor's own single-instruction access
abbrev pub single_read : ℕ
single_read = 9

abbrev pub single_write : ℕ
single_write = 10

abbrev pub of_task : ℕ → Event → Bool
of_task t v = eqb v.task t

-- an event of this kind on this object
abbrev pub is_on : ℕ → ℕ → Event → Bool
is_on k x v = eqb v.kind k && eqb v.object x

abbrev pub is_signal : ℕ → Event → Bool
is_signal s v = is_on signal s v

abbrev pub is_wait : ℕ → Event → Bool
is_wait s v = is_on wait s v

abbrev pub is_fork : ℕ → Event → Bool
is_fork t v = is_on fork t v

abbrev pub is_join : ℕ → Event → Bool
is_join t v = is_on join t v

abbrev pub is_post : ℕ → Event → Bool
is_post g v = is_on post g v

-- ---- the rules, for the event v after the events `before`, in a recording with the levels x

abbrev pub implies : Bool → Bool → Bool
implies true b = b
implies false b = true

-- a task that has been joined has no later record
abbrev pub not_joined : List Event → Event → Bool
not_joined before v = eqb (count (is_join v.task) before) 0

-- a fork names another task, not forked before and with no record before
abbrev pub fork_kept : List Event → Event → Bool
fork_kept before v =
    implies (eqb v.kind fork)
    (not (eqb v.object v.task) && eqb (count (is_fork v.object) before) 0 && eqb (count (of_task v.object) before) 0)

-- a join names another task, forked before and not joined before
abbrev pub join_kept : List Event → Event → Bool
join_kept before v =
    implies (eqb v.kind join)
    (not (eqb v.object v.task) && ltb 0 (count (is_fork v.object) before) && eqb (count (is_join v.object) before) 0)

-- at a wait, the start count of that semaphore and the earlier signals on it together outnumber the earlier waits on it
unfoldable pub wait_kept : Levels → List Event → Event → Bool
wait_kept x before v =
    implies (eqb v.kind wait)
    (ltb (count (is_wait v.object) before) (start_of x v.object + count (is_signal v.object) before))

-- at a flag wait, the earlier posts on that flag are at least its post count; none is used up
unfoldable pub flag_kept : Levels → List Event → Event → Bool
flag_kept x before v = implies (eqb v.kind flag_wait) (leb (post_of x v.object) (count (is_post v.object) before))

-- the first three rules
unfoldable pub life_kept : List Event → Event → Bool
life_kept before v = not_joined before v && fork_kept before v && join_kept before v

-- all of them
unfoldable pub obeys : Levels → List Event → Event → Bool
obeys x before v = life_kept before v && wait_kept x before v && flag_kept x before v

-- ---- the first faulty record

-- the table of kinds: what the object of each names; 0 is no kind, and names nothing
abbrev pub classes : List (Option Class)
classes =
    None ∷ Some Class.Semaphore ∷ Some Class.Semaphore ∷ Some Class.Task ∷ Some Class.Task ∷ Some Class.Cell ∷ Some Class.Cell
    ∷ Some Class.Flag ∷ Some Class.Flag ∷ Some Class.Cell ∷ Some Class.Cell ∷ []

unfoldable pub class_of : ℕ → Option Class
class_of k = get_or classes k None

-- how many names a class has; none where there is no class
abbrev pub names_of : Counts → Option Class → ℕ
names_of c None = 0
names_of c (Some Class.Semaphore) = semaphores_of c
names_of c (Some Class.Task) = c.tasks
names_of c (Some Class.Cell) = c.cells
names_of c (Some Class.Flag) = flags_of c

-- the last kind: 6, in edition 3 10
unfoldable pub last_kind : Counts → ℕ
last_kind c = cond (has_flags c) single_write write

-- the kind is one of the edition's, from 1 on
unfoldable pub known_kind : Counts → Event → Bool
known_kind c v = leb signal v.kind && leb v.kind (last_kind c)

-- task and object are below their counts
unfoldable pub named : Counts → Event → Bool
named c v = ltb v.task c.tasks && ltb v.object (names_of c (class_of v.kind))

-- the check of the event v after the events `before`, whose number is that of the record
unfoldable pub record_check : Counts → Levels → List Event → Event → Check
record_check c x before v =
    let e = length before in
    unless (known_kind c v) (Refusal.Kind e) λ _.
    unless (named c v) (Refusal.Name e) λ _.
    unless (life_kept before v) (Refusal.Life e) λ _.
    unless (wait_kept x before v) (Refusal.Empty e) λ _.
    unless (flag_kept x before v) (Refusal.Flag e) λ _.
    Ok tt

-- the first faulty record among the first n
unfoldable pub first_fault : Recording → ℕ → Check
first_fault E zero = Ok tt
first_fault E (suc n) = and_then (first_fault E n) λ _. record_check E.counts E.levels (take n E.events) (event E n)

-- an acceptable recording
unfoldable pub Accepted : Recording → Type 0
Accepted E = first_fault E (size E) ≡ Ok tt
