-- Positions, vectors, and what they order (document 01, Passes and safe vectors).
-- Assumes nothing.
use Rattle.std.specs.Prelude.{ℕ, suc, Bool, cond, not, ◌&&◌, List, [], ◌∷◌, ◌++◌, leb, eqb, get_or}
use Rattle.model.specs.Numbers.{tally, list_of}
use Rattle.model.specs.declared.Event.{Event}
use Rattle.model.specs.Recording.{Recording, size, tasks, event_in, task_of, of_task}

-- the position of e: its place among its task's records, from 1
unfoldable pub position : List Event → ℕ → ℕ
position l e = tally (λ a. of_task (event_in l e).task (event_in l a)) (suc e)

-- one vector for each event, and in it one number for each task
abbrev pub Vectors : Type 0
Vectors = List (List ℕ)

-- the number for task t in the vector of event e
abbrev pub number : Vectors → ℕ → ℕ → ℕ
number X e t = get_or (get_or X e []) t 0

-- the vectors as work numbers, event by event
unfoldable pub flat : Vectors → List ℕ
flat [] = []
flat (r ∷ X) = r ++ flat X

-- at the start an event's own task's number is its position and the others are 0
unfoldable pub start : Recording → Vectors
start E = list_of (λ e. list_of (λ t. cond (eqb t (task_of E e)) (position E.events e) 0) (tasks E)) (size E)

-- event a is at or before event b: b's number for a's task is at least a's position
abbrev pub at_or_before : List Event → Vectors → ℕ → ℕ → Bool
at_or_before l X a b = leb (position l a) (number X b (event_in l a).task)

-- event a is ordered before another event b
unfoldable pub ordered : List Event → Vectors → ℕ → ℕ → Bool
ordered l X a b = not (eqb a b) && at_or_before l X a b

-- neither event is ordered before the other
unfoldable pub unordered : List Event → Vectors → ℕ → ℕ → Bool
unordered l X a b = not (ordered l X a b) && not (ordered l X b a)
