-- Admissible orders of a recording (document 01, What an acceptable recording obeys): lists of event numbers.
-- Assumes nothing.
use Rattle.std.specs.Prelude.{ℕ, suc, ◌<◌, ◌≡◌, true, cond, List, [], ◌∷◌, map, ltb, eqb, length, get_or, take}
use Rattle.model.specs.declared.Event.{Event}
use Rattle.model.specs.Numbers.{bit, count, picked}
use Rattle.model.specs.Recording.{Levels, Recording, size, no_event, event, task_of, obeys}

-- where the order puts event e; its length where it does not have it
unfoldable pub place : List ℕ → ℕ → ℕ
place [] e = 0
place (x ∷ o) e = cond (eqb e x) 0 (suc (place o e))

-- the order puts a earlier than b: a comes first
abbrev pub Precedes : List ℕ → ℕ → ℕ → Type 0
Precedes o a b = place o a < place o b

-- the order of the file itself
unfoldable pub file_order : Recording → List ℕ
file_order E = picked (λ e. true) (size E)

-- how often event e stands in the order
abbrev pub occurrences : ℕ → List ℕ → ℕ
occurrences e o = count (eqb e) o

-- the records in this order
abbrev pub rearranged : Recording → List ℕ → List Event
rearranged E o = map (event E) o

-- the recording with its records in this order
abbrev pub in_order : Recording → List ℕ → Recording
in_order E o = record { counts = E.counts; levels = E.levels; events = rearranged E o }

-- each record obeys the rules after those before it
abbrev pub Obeying : Levels → List Event → Type 0
Obeying x l = (i : ℕ) → i < length l → obeys x (take i l) (get_or l i no_event) ≡ true

-- an admissible order: each event once, each task's own order kept, the rules obeyed
pub record Admissible (E : Recording) (o : List ℕ) : Type 0 where
  pub once : (e : ℕ) → occurrences e o ≡ bit (ltb e (size E))
  pub own : (a b : ℕ) → a < b → b < size E → task_of E a ≡ task_of E b → Precedes o a b
  pub rules : Obeying E.levels (rearranged E o)

-- a comes first in every admissible order
abbrev pub Always : Recording → ℕ → ℕ → Type 0
Always E a b = (o : List ℕ) → Admissible E o → Precedes o a b

-- a comes first in some admissible order
abbrev pub Sometimes : Recording → ℕ → ℕ → Type 0
Sometimes E a b = (o : List ℕ) × Admissible E o × Precedes o a b
