-- What is found of each event once a call, and kept in an array with a place for each event.
-- Assumes nothing.
use Rattle.std.specs.Prelude.{ℕ, zero, suc, ◌*◌, ◌/◌, ◌%◌, ◌≤◌, ◌<◌, ◌≡◌, cond, List, ltb, eqb, length, get_or, Option, Some, None}
use Rattle.model.specs.declared.Event.{Event}
use Rattle.model.specs.Numbers.{last_of}
use Rattle.model.specs.Recording.{event_in, is_fork, join}
use Rattle.model.specs.Vectors.{position}
use Rattle.model.specs.Passes.{fork_of, last_event, before_or_fork}

-- the position of each event
pub record Positions (l : List Event) (kept : List ℕ) : Type 0 where
  pub room : length l ≤ length kept
  pub placed : (e : ℕ) → e < length l → get_or kept e 0 ≡ position l e

-- the task of each event
abbrev pub KeptTasks : List Event → List ℕ → Type 0
KeptTasks l kept = (e : ℕ) → e < length l → get_or kept e 0 ≡ (event_in l e).task

-- a found event is below n
abbrev pub Below : ℕ → Option ℕ → Type 0
Below n (Some a) = a < n
Below n None = Unit {0}

-- an event of n as a number: n, which is no event's, where none was found
abbrev pub found_below : ℕ → ℕ → Option ℕ
found_below n a = cond (ltb a n) (Some a) None

-- the last fork among the first e events, of each task that is a byte
abbrev pub ForksTo : List Event → ℕ → List ℕ → Type 0
ForksTo l e kept = (t : ℕ) → t < 256 → found_below (length l) (get_or kept t 0) ≡ last_of (λ a. is_fork t (event_in l a)) e

-- the fork of each task that is a byte
abbrev pub KeptForks : List Event → List ℕ → Type 0
KeptForks l kept = ForksTo l (length l) kept

-- where e is a join, this event
abbrev pub of_join : List Event → ℕ → Option ℕ → Option ℕ
of_join l e f = cond (eqb (event_in l e).kind join) f None

-- source j of e: the event before or the fork, and for a join the fork and the last event of its task
unfoldable pub source_of : List Event → ℕ → ℕ → Option ℕ
source_of l e zero = before_or_fork l e
source_of l e (suc zero) = of_join l e (fork_of l (event_in l e).object)
source_of l e (suc (suc j)) = of_join l e (last_event l (event_in l e).object)

-- the sources of each event, three places for each
pub record Sources (l : List Event) (kept : List ℕ) : Type 0 where
  pub low : (i : ℕ) → get_or kept i 0 ≤ length l
  pub source : (i : ℕ) → i < 3 * length l → found_below (length l) (get_or kept i 0) ≡ source_of l (i / 3) (i % 3)

-- each event is of a task below k
abbrev pub Tasked : List Event → ℕ → Type 0
Tasked l k = (e : ℕ) → e < length l → (event_in l e).task < k
