-- The look for a joined task's last event, back from its join (document 02, No. 3): what it finds in a part of the records, how many
-- records it reads, and why the part before the join is enough.
-- Assumes nothing.
use Rattle.std.specs.Prelude.{ℕ, ◌-◌, ◌≤◌, ◌<◌, ◌≡◌, true, false, List, ◌↔◌, length, take, Option, Some, None}
use Rattle.model.specs.declared.Event.{Event}
use Rattle.model.specs.Recording.{Recording, size, event_in, event, of_task, is_join, Accepted}
use Rattle.model.specs.Passes.{last_event}

-- of n records those from the hit on, or all
abbrev pub from_hit : ℕ → Option ℕ → ℕ
from_hit n (Some a) = n - a
from_hit n None = n

-- how many of the records l are read, going back from the last one, until the last event of task t is found
unfoldable pub records_read : List Event → ℕ → ℕ
records_read l t = from_hit (length l) (last_event l t)

-- what is found among the records l for task t
pub record Looked (l : List Event) (t : ℕ) : Type 0 where
  -- a record of the task, and the task has none behind it
  pub hit : (a : ℕ) → last_event l t ≡ Some a → (a < length l) × (of_task t (event_in l a) ≡ true) × ((b : ℕ) → a < b → b < length l → of_task t (event_in l b) ≡ false)
  -- none exactly when the task has no record there
  pub none : (last_event l t ≡ None) ↔ ((a : ℕ) → a < length l → of_task t (event_in l a) ≡ false)

-- the statement, proved as `looked` in proofs/LastEvent.antt
abbrev pub LookedBack : Type 0
LookedBack = (l : List Event) (t : ℕ) → Looked l t

-- no record of a joined task follows its join, nor is the join one
abbrev pub NoneAfterJoin : List Event → Type 0
NoneAfterJoin l = (t e a : ℕ) → is_join t (event_in l e) ≡ true → e ≤ a → a < length l → of_task t (event_in l a) ≡ false

-- the law, proved as `last_before_join` in proofs/LastEvent.antt: in an accepted recording the last event of a joined task is the last
-- before its join
abbrev pub LastBeforeJoin : Type 0
LastBeforeJoin =
    (E : Recording) → Accepted E → (t e : ℕ) → e < size E → is_join t (event E e) ≡ true → last_event E.events t ≡ last_event (take e E.events) t
