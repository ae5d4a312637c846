-- The steps of a pass, as functions from vectors to vectors.
-- Assumes nothing.
use Rattle.std.specs.Prelude.{ℕ, Bool, not, ◌&&◌, List, length, set}
use Rattle.model.specs.declared.Counts.{Counts}
use Rattle.model.specs.declared.Event.{Event}
use Rattle.model.specs.Numbers.{picked, largest}
use Rattle.model.specs.Recording.{Recording, tasks, event_in, is_on}
use Rattle.model.specs.Vectors.{Vectors, position, number, ordered}
use Rattle.model.specs.Passes.{kth_among, served, raised}
use Rattle.vectors.specs.Rows.{raised_to, own_row}

-- the starting vector of an event
abbrev pub first_row : Counts → List Event → ℕ → List ℕ
first_row c l e = own_row c.tasks (event_in l e).task (position l e)

-- e has taken the largest, number by number, of its own vector and of those of these events
unfoldable pub taken : Counts → Vectors → List ℕ → ℕ → Vectors
taken c X from e = raised_to c.tasks X e (λ t. largest (λ s. number X s t) from)

-- an event a of this kind on x that e is not ordered before
abbrev pub candidate : List Event → Vectors → ℕ → ℕ → ℕ → ℕ → Bool
candidate l X e kind x a = is_on kind x (event_in l a) && not (ordered l X e a)

unfoldable pub candidates_on : List Event → Vectors → ℕ → ℕ → ℕ → List ℕ
candidates_on l X e kind x = picked (candidate l X e kind x) (length l)

-- a wait e on x, raised to the k-th least numbers of its candidates, which are of this kind
unfoldable pub waited : Counts → List Event → Vectors → ℕ → ℕ → ℕ → ℕ → Vectors
waited c l X e kind x k = raised_to c.tasks X e (kth_among X k (candidates_on l X e kind x))

-- step 2 for e
unfoldable pub step_two : Recording → Vectors → ℕ → Vectors
step_two E X e = raised_to (tasks E) X e (served E X e)

-- both steps for e
unfoldable pub raised_event : Recording → Vectors → ℕ → Vectors
raised_event E X e = set X e (raised E X e)
