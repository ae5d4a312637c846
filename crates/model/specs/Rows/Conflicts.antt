-- Conflicts (document 01, List and marks; 02, No. 8). Proved as `symmetric` in proofs/Listed.antt and
-- `conflicts` in proofs/Rows.antt. Assumes nothing.
use Rattle.std.specs.Prelude.{ℕ, ◌≡◌, Bool, true, false, List, [], ◌∷◌, map}
use Rattle.model.specs.declared.Event.{Event}
use Rattle.model.specs.Recording.{join, read, write, single_read, single_write}
use Rattle.model.specs.Pairs.{conflict}

-- an event of kind k by task t on the object x
abbrev pub event_by : ℕ → ℕ → ℕ → Event
event_by k t x = record { task = t; kind = k; object = x }

-- the four kinds of access: a read, a write, and each by a single instruction
abbrev pub accesses : List ℕ
accesses = read ∷ write ∷ single_read ∷ single_write ∷ []

-- whether an access of kind k by task 0 to cell 0 conflicts with one of each kind by task t to cell x
abbrev pub against : ℕ → ℕ → ℕ → List Bool
against t x k = map (λ l. conflict (event_by k 0 0) (event_by l t x)) accesses

-- no two of any kinds conflict
abbrev pub NoneConflict : ℕ → ℕ → Type 0
NoneConflict t x = map (against t x) accesses ≡ (none ∷ none ∷ none ∷ none ∷ [])
  where
    none : List Bool
    none = false ∷ false ∷ false ∷ false ∷ []

-- whether two events conflict does not hang on which of them is recorded first
abbrev pub Symmetric : Type 0
Symmetric = (v w : Event) → conflict v w ≡ conflict w v

pub record Conflicts : Type 0 where
  -- the sixteen combinations of two tasks' accesses to one cell: at least one writes, and not both are by a single instruction
  pub reads : against 1 0 read ≡ false ∷ true ∷ false ∷ true ∷ []
  pub writes : against 1 0 write ≡ true ∷ true ∷ true ∷ true ∷ []
  pub single_reads : against 1 0 single_read ≡ false ∷ true ∷ false ∷ false ∷ []
  pub single_writes : against 1 0 single_write ≡ true ∷ true ∷ false ∷ false ∷ []
  -- from different tasks, to one cell, and accesses alone
  pub one_task : NoneConflict 0 0
  pub two_cells : NoneConflict 1 1
  pub one_task_two_cells : NoneConflict 0 1
  pub no_access : conflict (event_by write 0 0) (event_by join 1 0) ≡ false
  pub no_kind : conflict (event_by write 0 0) (event_by 11 1 0) ≡ false
