-- Passes and safe vectors (document 01; 02, No. 1 and 6).
-- Assumes nothing.
use Rattle.std.specs.Prelude.{ℕ, zero, suc, ◌+◌, ◌-◌, ◌*◌, max, Bool, true, false, cond, not, ◌&&◌, List, [], ◌∷◌, ◌++◌, map, eqb, length, set, Option, Some, None}
use Rattle.model.specs.declared.Event.{Event}
use Rattle.model.specs.Numbers.{count, filter, list_of, picked, last_of, found, largest, kth_least}
use Rattle.model.specs.Recording.{start_of, post_of, Recording, size, tasks, event_in, kind_of, object_of, signal, wait, join, post, flag_wait, of_task, is_on, is_fork}
use Rattle.model.specs.Vectors.{Vectors, number, start, ordered}

-- ---- step 1: the events whose vectors e takes the largest of

-- the event before e in its task
abbrev pub previous : List Event → ℕ → Option ℕ
previous l e = last_of (λ a. of_task (event_in l e).task (event_in l a)) e

-- the fork of task t
abbrev pub fork_of : List Event → ℕ → Option ℕ
fork_of l t = last_of (λ a. is_fork t (event_in l a)) (length l)

-- the last event of task t
abbrev pub last_event : List Event → ℕ → Option ℕ
last_event l t = last_of (λ a. of_task t (event_in l a)) (length l)

-- the first that was found
abbrev pub first_found : Option ℕ → Option ℕ → Option ℕ
first_found (Some a) f = Some a
first_found None f = f

-- the event before e in its task, or for the first event of a task the fork
abbrev pub before_or_fork : List Event → ℕ → Option ℕ
before_or_fork l e = first_found (previous l e) (fork_of l (event_in l e).task)

-- for a join of t the fork of t and the last event of t
abbrev pub join_sources : List Event → ℕ → Bool → List ℕ
join_sources l e true = found (fork_of l (event_in l e).object) ++ found (last_event l (event_in l e).object)
join_sources l e false = []

unfoldable pub sources : List Event → ℕ → List ℕ
sources l e = found (before_or_fork l e) ++ join_sources l e (eqb (event_in l e).kind join)

-- the largest, number by number, of e's own vector and of those of these events
unfoldable pub gathered : Recording → Vectors → List ℕ → ℕ → List ℕ
gathered E X from e = list_of (λ t. largest (λ s. number X s t) (e ∷ from)) (tasks E)

-- the vectors after step 1 for e
unfoldable pub step_one : Recording → Vectors → ℕ → Vectors
step_one E X e = set X e (gathered E X (sources E.events e) e)

-- ---- step 2: a wait of either kind is raised to the k-th least of its candidates

-- the events of kind k on the object x, in file order
unfoldable pub events_on : List Event → ℕ → ℕ → List ℕ
events_on l k x = picked (λ a. is_on k x (event_in l a)) (length l)

-- the signals on semaphore s, the waits on it, and the posts on flag g
abbrev pub signals_on : List Event → ℕ → List ℕ
signals_on l s = events_on l signal s

abbrev pub waits_on : List Event → ℕ → List ℕ
waits_on l s = events_on l wait s

abbrev pub posts_on : List Event → ℕ → List ℕ
posts_on l g = events_on l post g

-- k of a wait e on s: 1 plus the waits on s ordered before e, lowered by the start count of s; 0, which raises nothing, where that is
-- 0 or less
abbrev pub k_of : Recording → Vectors → ℕ → ℕ → ℕ
k_of E X e s = suc (count (λ w. ordered E.events X w e) (waits_on E.events s)) - start_of E.levels s

-- k of a flag wait: the post count of its flag; 0, which raises nothing, where e is no wait of either kind
abbrev pub post_where : Recording → ℕ → Bool → ℕ
post_where E e true = post_of E.levels (object_of E e)
post_where E e false = 0

-- k of a wait, or else that of a flag wait
abbrev pub k_where : Recording → Vectors → ℕ → Bool → ℕ
k_where E X e true = k_of E X e (object_of E e)
k_where E X e false = post_where E e (eqb (kind_of E e) flag_wait)

-- k of an event
unfoldable pub needed : Recording → Vectors → ℕ → ℕ
needed E X e = k_where E X e (eqb (kind_of E e) wait)

-- the kind of the events that serve one of kind k: posts serve a flag wait, signals a wait
abbrev pub serving : ℕ → ℕ
serving k = cond (eqb k flag_wait) post signal

-- the candidates: the signals on its semaphore, or the posts on its flag, that e is not ordered before
unfoldable pub candidates : Recording → Vectors → ℕ → List ℕ
candidates E X e = filter (λ s. not (ordered E.events X e s)) (events_on E.events (serving (kind_of E e)) (object_of E e))

-- the k-th least among these candidates' numbers for task t; 0 where there are fewer than k
unfoldable pub kth_among : Vectors → ℕ → List ℕ → ℕ → ℕ
kth_among X k from t = kth_least k (map (λ s. number X s t) from)

-- what step 2 raises the number of e for task t to
unfoldable pub served : Recording → Vectors → ℕ → ℕ → ℕ
served E X e t = kth_among X (needed E X e) (candidates E X e) t

-- the vector of e after both steps
unfoldable pub raised : Recording → Vectors → ℕ → List ℕ
raised E X e = let Y = step_one E X e in list_of (λ t. max (number Y e t) (served E Y e t)) (tasks E)

-- ---- a pass, in file order, each event with the vectors as they are at that moment

-- the vectors when the events below n have been raised
unfoldable pub pass_to : Recording → Vectors → ℕ → Vectors
pass_to E X zero = X
pass_to E X (suc n) = let Y = pass_to E X n in set Y n (raised E Y n)

unfoldable pub pass : Recording → Vectors → Vectors
pass E X = pass_to E X (size E)

-- ---- passes until the budget is spent or a pass is quiet

abbrev pub same_row : List ℕ → List ℕ → Bool
same_row [] [] = true
same_row [] (y ∷ m) = false
same_row (x ∷ l) [] = false
same_row (x ∷ l) (y ∷ m) = eqb x y && same_row l m

-- two vectors of vectors are the same: a pass from the one to the other was quiet
abbrev pub same : Vectors → Vectors → Bool
same [] [] = true
same [] (y ∷ m) = false
same (x ∷ l) [] = false
same (x ∷ l) (y ∷ m) = same_row x y && same l m

-- passes made, settled, and the safe vectors
pub record Run : Type 0 where
  pub passes : ℕ
  pub settled : Bool
  pub vectors : Vectors

-- one more pass, unless the last one was quiet
unfoldable pub further : Recording → Run → Run
further E r =
    elim r.settled [
      | true ↦ r
      | false ↦ let Y = pass E r.vectors in record { passes = suc r.passes; settled = same r.vectors Y; vectors = Y }
    ]

-- the run with a budget
unfoldable pub run : Recording → ℕ → Run
run E zero = record { passes = 0; settled = false; vectors = start E }
run E (suc budget) = further E (run E budget)

-- of a run with a budget: the safe vectors, passes made, and whether it is settled
abbrev pub safe_vectors : Recording → ℕ → Vectors
safe_vectors E budget = (run E budget).vectors

abbrev pub passes_made : Recording → ℕ → ℕ
passes_made E budget = (run E budget).passes

abbrev pub is_settled : Recording → ℕ → Bool
is_settled E budget = (run E budget).settled

-- N × N + 1: with this budget every accepted recording is settled
abbrev pub budget_of : Recording → ℕ
budget_of E = size E * size E + 1
