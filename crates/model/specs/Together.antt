-- Two recordings of one job held together (document 02, No. 4): whether they are the same work, their one list, and what the call
-- answers and leaves in the lent memory.
-- Assumes nothing.
use Rattle.std.specs.Prelude.{ℕ, zero, suc, ◌*◌, max, Bool, true, ◌&&◌, List, [], ◌∷◌, ◌++◌, map, leb, eqb, length, get_or, drop, Option, Some, None, Result, Ok, Err}
use Rattle.model.specs.declared.Event.{Event}
use Rattle.model.specs.declared.Counts.{Counts}
use Rattle.model.specs.declared.Refusal.{Refusal}
use Rattle.model.specs.Refusals.{Check, unless, and_then, after}
use Rattle.model.specs.Numbers.{flat_map, last_of}
use Rattle.model.specs.Recording.{Recording, tasks, semaphores_of, flags_of, event_in, of_task}
use Rattle.model.specs.File.{recording_of}
use Rattle.model.specs.Reading.{file_check}
use Rattle.model.specs.Vectors.{position}
use Rattle.model.specs.Passes.{budget_of}
use Rattle.model.specs.Recorded.{recorded}
use Rattle.model.specs.Pairs.{mark, Entry, own_events, listed}
use Rattle.model.specs.Analysing.{work_fits, filled}

-- ---- the same work: 14 where two recordings differ

-- the same tasks, semaphores, flags and cells; the editions may differ
unfoldable pub same_counts : Counts → Counts → Bool
same_counts c d =
    eqb c.tasks d.tasks && eqb (semaphores_of c) (semaphores_of d) && eqb (flags_of c) (flags_of d) && eqb c.cells d.cells

-- the first n numbers, of start counts or of post counts, are the same, 0 where none is given
unfoldable pub same_levels : List ℕ → List ℕ → ℕ → Bool
same_levels x y zero = true
same_levels x y (suc n) = same_levels x y n && eqb (get_or x n 0) (get_or y n 0)

-- the records of task t, by position
abbrev pub own_records : List Event → ℕ → List Event
own_records l t = map (event_in l) (own_events l t)

-- the same kind and object
abbrev pub same_record : Event → Event → Bool
same_record v w = eqb v.kind w.kind && eqb v.object w.object

-- the records of task t from position p on: 14 at the first position where they differ, a missing record counting as different
unfoldable pub records_alike : ℕ → ℕ → List Event → List Event → Check
records_alike t p [] [] = Ok tt
records_alike t p [] (w ∷ m) = Err (Refusal.Differ t p)
records_alike t p (v ∷ l) [] = Err (Refusal.Differ t p)
records_alike t p (v ∷ l) (w ∷ m) = unless (same_record v w) (Refusal.Differ t p) λ _. records_alike t (suc p) l m

-- the records of the first n tasks, the lowest first; positions count from 1
unfoldable pub tasks_alike : List Event → List Event → ℕ → Check
tasks_alike l m zero = Ok tt
tasks_alike l m (suc t) = and_then (tasks_alike l m t) λ _. records_alike t 1 (own_records l t) (own_records m t)

-- counts, start counts and post counts, with task 0 and position 0, then the records
unfoldable pub work_alike : Recording → Recording → Check
work_alike E F =
    unless (same_counts E.counts F.counts) (Refusal.Differ 0 0) λ _.
    unless (same_levels E.levels.starts F.levels.starts (semaphores_of E.counts)) (Refusal.Differ 0 0) λ _.
    unless (same_levels E.levels.posts F.levels.posts (flags_of E.counts)) (Refusal.Differ 0 0) λ _.
    tasks_alike E.events F.events (tasks E)

-- ---- the one list

-- the event of task t at position p
unfoldable pub at_position : List Event → ℕ → ℕ → Option ℕ
at_position l t p = last_of (λ e. of_task t (event_in l e) && eqb (position l e) p) (length l)

-- a pair by name: task and position of the event of the lower task, and of that of the higher task
pub record Named : Type 0 where
  pub task : ℕ
  pub position : ℕ
  pub other_task : ℕ
  pub other_position : ℕ

-- the pair of an entry, by name
unfoldable pub name_of : List Event → Entry → Named
name_of l p =
    record {
      task = (event_in l p.first).task;
      position = position l p.first;
      other_task = (event_in l p.second).task;
      other_position = position l p.second;
    }

-- the pairs on the list of a run with a budget, by name
abbrev pub named_pairs : Recording → ℕ → List Named
named_pairs E budget = map (name_of E.events) (listed E budget)

-- those of the settled list
abbrev pub settled_pairs : Recording → List Named
settled_pairs E = named_pairs E (budget_of E)

-- the mark of two events that were looked for
abbrev pub mark_found : Recording → Option ℕ → Option ℕ → ℕ
mark_found E (Some a) (Some b) = mark E (recorded E) a b
mark_found E (Some a) None = 0
mark_found E None g = 0

-- the mark of a pair in one recording
unfoldable pub mark_of : Recording → Named → ℕ
mark_of E p = mark_found E (at_position E.events p.task p.position) (at_position E.events p.other_task p.other_position)

-- in both: sure when either recording makes it sure
unfoldable pub joint_mark : Recording → Recording → Named → ℕ
joint_mark E F p = max (mark_of E p) (mark_of F p)

-- its entry: task and position, twice, then the mark
unfoldable pub joint_entry : Recording → Recording → Named → List ℕ
joint_entry E F p = p.task ∷ p.position ∷ p.other_task ∷ p.other_position ∷ joint_mark E F p ∷ []

-- the one list of both, as numbers: in the order of the first one's list
unfoldable pub joint_list : Recording → Recording → List ℕ
joint_list E F = flat_map (joint_entry E F) (settled_pairs E)

-- ---- the call: files f and g, their work memories v and w, and a list

-- the first file's refusal, the second file's, 14, then 9 where either work memory is too short
unfoldable pub both_check : List ℕ → List ℕ → List ℕ → List ℕ → Check
both_check f g v w =
    and_then (file_check f) λ _.
    and_then (file_check g) λ _.
    and_then (work_alike (recording_of f) (recording_of g)) λ _.
    unless (work_fits (recording_of f) v && work_fits (recording_of g) w) Refusal.Work λ _.
    Ok tt

-- the list has 5 × pairs numbers
abbrev pub joint_fits : Recording → List ℕ → Bool
joint_fits E list = leb (5 * length (settled_pairs E)) (length list)

-- then 10, with the pairs needed
unfoldable pub joint_check : List ℕ → List ℕ → List ℕ → List ℕ → List ℕ → Check
joint_check f g v w list =
    and_then (both_check f g v w) λ _.
    let E = recording_of f in unless (joint_fits E list) (Refusal.List (length (settled_pairs E))) λ _. Ok tt

abbrev pub joint_by : Recording → Check → Result ℕ Refusal
joint_by E (Ok tt) = Ok (length (settled_pairs E))
joint_by E (Err r) = Err r

-- what the call answers
unfoldable pub joint_of : List ℕ → List ℕ → List ℕ → List ℕ → List ℕ → Result ℕ Refusal
joint_of f g v w list = joint_by (recording_of f) (joint_check f g v w list)

-- a work memory after the call: filled as after analysing its own file with N × N + 1, also after 10
abbrev pub settled_in : Recording → List ℕ → List ℕ
settled_in E work = filled E (budget_of E) work

unfoldable pub first_work_after : List ℕ → List ℕ → List ℕ → List ℕ → List ℕ
first_work_after f g v w = after (both_check f g v w) (λ _. settled_in (recording_of f) v) v

unfoldable pub second_work_after : List ℕ → List ℕ → List ℕ → List ℕ → List ℕ
second_work_after f g v w = after (both_check f g v w) (λ _. settled_in (recording_of g) w) w

-- the list after the call: the entries, and beyond the last one what was there
unfoldable pub joint_list_after : List ℕ → List ℕ → List ℕ → List ℕ → List ℕ → List ℕ
joint_list_after f g v w list =
    after (joint_check f g v w list)
    (λ _. let E = recording_of f in joint_list E (recording_of g) ++ drop (5 * length (settled_pairs E)) list) list
