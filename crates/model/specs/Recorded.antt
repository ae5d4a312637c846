-- The recorded run (document 01; 02, No. 1 and 6): vectors that are made once, in file order.
-- Assumes nothing.
use Rattle.std.specs.Prelude.{ℕ, zero, suc, ◌-◌, Bool, true, false, cond, List, [], ◌++◌, ltb, eqb, take, set, Option, None}
use Rattle.model.specs.declared.Event.{Event}
use Rattle.model.specs.Numbers.{tally, nth, found}
use Rattle.model.specs.Recording.{Levels, start_of, post_of, Recording, size, event_in, wait, flag_wait, is_wait}
use Rattle.model.specs.Vectors.{Vectors, start}
use Rattle.model.specs.Passes.{sources, gathered, signals_on, posts_on}

-- how many waits on e's semaphore the file has before e
abbrev pub waits_before : List Event → ℕ → ℕ
waits_before l e = tally (λ w. is_wait (event_in l e).object (event_in l w)) e

-- the signal of a wait e on a semaphore with the start count n: the first n waits have none, later ones match from the first signal on
abbrev pub match_after : ℕ → List Event → ℕ → Option ℕ
match_after n l e = cond (ltb (waits_before l e) n) None (nth (signals_on l (event_in l e).object) (waits_before l e - n))

-- the signal that e is matched with, in a recording with the levels x; nothing where it is no wait
abbrev pub match_where : Levels → List Event → ℕ → Bool → Option ℕ
match_where x l e true = match_after (start_of x (event_in l e).object) l e
match_where x l e false = None

unfoldable pub matched : Levels → List Event → ℕ → Option ℕ
matched x l e = match_where x l e (eqb (event_in l e).kind wait)

-- the posts that a flag wait e follows: the file's first ones on its flag, as many as the post count; none where e is no flag wait
abbrev pub open_where : Levels → List Event → ℕ → Bool → List ℕ
open_where x l e true = take (post_of x (event_in l e).object) (posts_on l (event_in l e).object)
open_where x l e false = []

unfoldable pub opened : Levels → List Event → ℕ → List ℕ
opened x l e = open_where x l e (eqb (event_in l e).kind flag_wait)

-- the events that e follows in the recorded run: step 1's, for a wait the matched signal, and for a flag wait the first posts
abbrev pub causes : Levels → List Event → ℕ → List ℕ
causes x l e = sources l e ++ (found (matched x l e) ++ opened x l e)

-- the vectors when those of the events below n have been made
unfoldable pub recorded_to : Recording → ℕ → Vectors
recorded_to E zero = start E
recorded_to E (suc n) = let Y = recorded_to E n in set Y n (gathered E Y (causes E.levels E.events n) n)

-- the recorded vectors
unfoldable pub recorded : Recording → Vectors
recorded E = recorded_to E (size E)
