-- The look for a task's last event in parts of the records, back from the part's end (document 02, No. 3).
-- Proved as `looked_at` in proofs/Rows.antt. Assumes nothing.
use Rattle.std.specs.Prelude.{ℕ, ◌≡◌, List, [], ◌∷◌, ◌++◌, Option, Some, None}
use Rattle.model.specs.File.{events_of}
use Rattle.model.specs.Passes.{last_event}
use Rattle.model.specs.LastEvent.{records_read}
use Rattle.model.specs.Rows.Starred.{W, R, Fork}

-- in the part s the look for task t finds this, and reads n records
abbrev pub Finds : List ℕ → ℕ → Option ℕ → ℕ → Type 0
Finds s t found n = (last_event (events_of s) t ≡ found) × (records_read (events_of s) t ≡ n)

-- the records of the printed file before its join, and those of them behind the fork
abbrev pub before_join : List ℕ
before_join = W 0 ++ Fork 0 1 ++ W 1 ++ R 0

abbrev pub after_fork : List ℕ
after_fork = W 1 ++ R 0

pub record LookedAt : Type 0 where
  -- the joined task's write is the last but one; within a shorter part it has another number
  pub joined : Finds before_join 1 (Some 2) 2
  pub joined_in_part : Finds after_fork 1 (Some 0) 2
  -- the first hit from the end, of several
  pub last_record : Finds before_join 0 (Some 3) 1
  pub first_record : Finds (W 0 ++ W 1 ++ W 2) 0 (Some 0) 3
  pub no_record : Finds before_join 2 None 4
  pub no_bytes : Finds [] 0 None 0
  -- the bytes behind the last whole record are no record
  pub three_bytes : Finds (0 ∷ 6 ∷ 0 ∷ []) 0 None 0
  pub seven_bytes : Finds (W 0 ++ (1 ∷ 6 ∷ 0 ∷ [])) 1 None 1
