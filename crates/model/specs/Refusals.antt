-- The refusal table (document 01, Refusal table; 02, No. 1, 4, 5, 6 and 9), and checks made in its order.
-- Assumes nothing.
use Rattle.std.specs.Prelude.{ℕ, Bool, true, false, Result, Ok, Err}
use Rattle.model.specs.declared.Refusal.{Refusal}

-- the number of each refusal in the table
abbrev pub number_of : Refusal → ℕ
number_of Refusal.Short = 1
number_of Refusal.Edition = 2
number_of Refusal.Extent = 3
number_of Refusal.Count = 4
number_of (Refusal.Kind e) = 5
number_of (Refusal.Name e) = 6
number_of (Refusal.Life e) = 7
number_of (Refusal.Empty e) = 8
number_of Refusal.Work = 9
number_of (Refusal.List n) = 10
number_of Refusal.Event = 11
number_of Refusal.Out = 12
number_of Refusal.Starts = 13
number_of (Refusal.Differ t p) = 14
number_of Refusal.Unsure = 15
number_of (Refusal.Flag e) = 16
number_of Refusal.Stretch = 17

-- the faulty record; 0 where no record is at fault
abbrev pub record_of : Refusal → ℕ
record_of Refusal.Short = 0
record_of Refusal.Edition = 0
record_of Refusal.Extent = 0
record_of Refusal.Count = 0
record_of (Refusal.Kind e) = e
record_of (Refusal.Name e) = e
record_of (Refusal.Life e) = e
record_of (Refusal.Empty e) = e
record_of Refusal.Work = 0
record_of (Refusal.List n) = 0
record_of Refusal.Event = 0
record_of Refusal.Out = 0
record_of Refusal.Starts = 0
record_of (Refusal.Differ t p) = 0
record_of Refusal.Unsure = 0
record_of (Refusal.Flag e) = e
record_of Refusal.Stretch = 0

-- the pairs needed, which 10 also returns
abbrev pub pairs_of : Refusal → ℕ
pairs_of Refusal.Short = 0
pairs_of Refusal.Edition = 0
pairs_of Refusal.Extent = 0
pairs_of Refusal.Count = 0
pairs_of (Refusal.Kind e) = 0
pairs_of (Refusal.Name e) = 0
pairs_of (Refusal.Life e) = 0
pairs_of (Refusal.Empty e) = 0
pairs_of Refusal.Work = 0
pairs_of (Refusal.List n) = n
pairs_of Refusal.Event = 0
pairs_of Refusal.Out = 0
pairs_of Refusal.Starts = 0
pairs_of (Refusal.Differ t p) = 0
pairs_of Refusal.Unsure = 0
pairs_of (Refusal.Flag e) = 0
pairs_of Refusal.Stretch = 0

-- the task that differs, which 14 also returns
abbrev pub differing_task : Refusal → ℕ
differing_task Refusal.Short = 0
differing_task Refusal.Edition = 0
differing_task Refusal.Extent = 0
differing_task Refusal.Count = 0
differing_task (Refusal.Kind e) = 0
differing_task (Refusal.Name e) = 0
differing_task (Refusal.Life e) = 0
differing_task (Refusal.Empty e) = 0
differing_task Refusal.Work = 0
differing_task (Refusal.List n) = 0
differing_task Refusal.Event = 0
differing_task Refusal.Out = 0
differing_task Refusal.Starts = 0
differing_task (Refusal.Differ t p) = t
differing_task Refusal.Unsure = 0
differing_task (Refusal.Flag e) = 0
differing_task Refusal.Stretch = 0

-- and its first position that does
abbrev pub differing_position : Refusal → ℕ
differing_position Refusal.Short = 0
differing_position Refusal.Edition = 0
differing_position Refusal.Extent = 0
differing_position Refusal.Count = 0
differing_position (Refusal.Kind e) = 0
differing_position (Refusal.Name e) = 0
differing_position (Refusal.Life e) = 0
differing_position (Refusal.Empty e) = 0
differing_position Refusal.Work = 0
differing_position (Refusal.List n) = 0
differing_position Refusal.Event = 0
differing_position Refusal.Out = 0
differing_position Refusal.Starts = 0
differing_position (Refusal.Differ t p) = p
differing_position Refusal.Unsure = 0
differing_position (Refusal.Flag e) = 0
differing_position Refusal.Stretch = 0

-- Tests are made in the table's order, and what follows a test is computed only where it passes.

-- the outcome of a check: it passes, or there is a refusal
abbrev pub Check : Type 0
Check = Result (Unit {0}) Refusal

-- unless the test passes, this refusal; else what follows
abbrev pub unless : Bool → Refusal → (Unit {0} → Check) → Check
unless true r rest = rest tt
unless false r rest = Err r

-- what follows a check that passes
abbrev pub and_then : Check → (Unit {0} → Check) → Check
and_then (Ok tt) rest = rest tt
and_then (Err r) rest = Err r

-- what a check that passes changes, or what is kept after a refusal
abbrev pub after : {A : Type 0} → Check → (Unit {0} → A) → A → A
after (Ok tt) changed kept = changed tt
after (Err r) changed kept = kept
