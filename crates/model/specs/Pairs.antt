-- Conflicts, race pairs, their marks, and the list (document 01, List and marks; 02, No. 2 and 8).
-- Assumes nothing.
use Rattle.std.specs.Prelude.{ℕ, ◌+◌, ◌*◌, Bool, cond, not, ◌&&◌, ◌||◌, ◌⊎◌, eqb, length, get_or}
use mathlib.Core.List.{List, [], ◌∷◌, Memᴰ}
use Rattle.model.specs.declared.Event.{Event}
use Rattle.model.specs.Numbers.{each, flat_map, flat_map_tails, picked}
use Rattle.model.specs.Recording.{Recording, tasks, cells, event, event_in, object_of, of_task, read, write, single_read, single_write}
use Rattle.model.specs.Vectors.{Vectors, unordered}
use Rattle.model.specs.Passes.{safe_vectors}
use Rattle.model.specs.Recorded.{recorded}

-- a read, plain or by a single instruction
abbrev pub is_read : Event → Bool
is_read v = eqb v.kind read || eqb v.kind single_read

-- a write, plain or by a single instruction
abbrev pub is_write : Event → Bool
is_write v = eqb v.kind write || eqb v.kind single_write

-- an access: a read or a write
abbrev pub is_access : Event → Bool
is_access v = is_read v || is_write v

-- an access by a single instruction
abbrev pub is_single : Event → Bool
is_single v = eqb v.kind single_read || eqb v.kind single_write

-- an access of cell x
abbrev pub is_access_of : ℕ → Event → Bool
is_access_of x v = is_access v && eqb v.object x

-- two accesses to one cell, from different tasks, at least one writing, and not both by a single instruction
unfoldable pub conflict : Event → Event → Bool
conflict v w =
    is_access v && is_access w && eqb v.object w.object && not (eqb v.task w.task) && (is_write v || is_write w)
    && not (is_single v && is_single w)

-- a race pair: a conflicting pair that the safe vectors X do not order
unfoldable pub race_pair : Recording → Vectors → ℕ → ℕ → Bool
race_pair E X a b = conflict (event E a) (event E b) && unordered E.events X a b

-- its mark: 1 (sure) where the recorded vectors R do not order it either, else 0 (open)
unfoldable pub mark : Recording → Vectors → ℕ → ℕ → ℕ
mark E R a b = cond (unordered E.events R a b) 1 0

-- an entry of the list: the event of the lower task, that of the higher task, mark
pub record Entry : Type 0 where
  pub first : ℕ
  pub second : ℕ
  pub mark : ℕ

abbrev pub entry : Recording → Vectors → ℕ → ℕ → Entry
entry E R a b = record { first = a; second = b; mark = mark E R a b }

-- the entry of a and b, where they are a race pair
abbrev pub pair_at : Recording → Vectors → Vectors → ℕ → ℕ → List Entry
pair_at E X R a b = cond (race_pair E X a b) (entry E R a b ∷ []) []

-- the entries of a with these events, in their order
unfoldable pub entries_of : Recording → Vectors → Vectors → ℕ → List ℕ → List Entry
entries_of E X R a behind = flat_map (pair_at E X R a) behind

-- these, where the object of a is c
abbrev pub row_at : Recording → Vectors → Vectors → ℕ → ℕ → List ℕ → List Entry
row_at E X R c a behind = cond (eqb (object_of E a) c) (entries_of E X R a behind) []

-- the entries of cell c: each event of an order with each one behind it
unfoldable pub cell_entries : Recording → Vectors → Vectors → List ℕ → ℕ → List Entry
cell_entries E X R order c = flat_map_tails (row_at E X R c) order

-- the entries by cell, and within a cell by an order of the events
unfoldable pub entries_in : Recording → Vectors → Vectors → List ℕ → List Entry
entries_in E X R order = each (cell_entries E X R order) (cells E)

-- the events of task t by position, which is file order
abbrev pub own_events : List Event → ℕ → List ℕ
own_events l t = picked (λ e. of_task t (event_in l e)) (length l)

-- the events in task order: by task, and within a task by position (document 02, No. 2)
unfoldable pub task_order : List Event → ℕ → List ℕ
task_order l tasks = each (own_events l) tasks

-- by cell, lower task, its position, higher task, its position
unfoldable pub entries : Recording → Vectors → Vectors → List Entry
entries E X R = entries_in E X R (task_order E.events (tasks E))

-- the list of a run with a budget
unfoldable pub listed : Recording → ℕ → List Entry
listed E budget = entries E (safe_vectors E budget) (recorded E)

-- these entries have one for the events a and b, in either order, with the mark m
abbrev pub Among : List Entry → ℕ → ℕ → ℕ → Type 0
Among es a b m = Memᴰ (record { first = a; second = b; mark = m }) es ⊎ Memᴰ (record { first = b; second = a; mark = m }) es

-- the list of this budget has it
abbrev pub OnList : Recording → ℕ → ℕ → ℕ → ℕ → Type 0
OnList E a b budget m = Among (listed E budget) a b m

-- the entries as numbers
unfoldable pub entry_numbers : List Entry → List ℕ
entry_numbers [] = []
entry_numbers (p ∷ l) = p.first ∷ p.second ∷ p.mark ∷ entry_numbers l

-- the entry at place i of such numbers
abbrev pub entry_at : List ℕ → ℕ → Entry
entry_at list i = record { first = get_or list (3 * i) 0; second = get_or list (3 * i + 1) 0; mark = get_or list (3 * i + 2) 0 }
