-- A stretch of work before another (document 02, No. 9): a stretch is a task with a first and a last position.
-- Assumes nothing.
use Rattle.std.specs.Prelude.{ℕ, zero, suc, Bool, true, not, ◌&&◌, cond, List, leb, ltb, eqb, length, Result, Ok, Err}
use Rattle.model.specs.declared.Event.{Event}
use Rattle.model.specs.declared.Refusal.{Refusal}
use Rattle.model.specs.Refusals.{Check, unless, and_then, after}
use Rattle.model.specs.Recording.{Recording, tasks, event_in, of_task, implies}
use Rattle.model.specs.File.{recording_of}
use Rattle.model.specs.Reading.{file_check}
use Rattle.model.specs.Vectors.{Vectors, position, ordered}
use Rattle.model.specs.Passes.{safe_vectors}
use Rattle.model.specs.Pairs.{own_events}
use Rattle.model.specs.Analysing.{work_fits, filled}
use Rattle.stretches.specs.declared.Stretch.{Stretch}
use Rattle.stretches.specs.declared.Lead.{Lead}

-- 1 first, 2 second, 3 neither
abbrev pub lead_number : Lead → ℕ
lead_number Lead.First = 1
lead_number Lead.Second = 2
lead_number Lead.Neither = 3

-- every number below n passes the test
unfoldable pub all : (ℕ → Bool) → ℕ → Bool
all p zero = true
all p (suc n) = all p n && p n

-- event a is of the stretch s: one of its task, at a position from its first to its last
unfoldable pub within : List Event → Stretch → ℕ → Bool
within l s a = of_task s.task (event_in l a) && leb s.first (position l a) && leb (position l a) s.last

-- the stretch r is before the stretch s: every event of r is ordered before every event of s
unfoldable pub before : List Event → Vectors → Stretch → Stretch → Bool
before l X r s = all (λ a. all (λ b. implies (within l r a && within l s b) (ordered l X a b)) (length l)) (length l)

-- first where the first is before the second, second where the second is before the first, else neither
abbrev pub lead_where : Bool → Bool → Lead
lead_where there back = cond there Lead.First (cond back Lead.Second Lead.Neither)

-- which of r and s is before the other by the safe vectors, with a budget
unfoldable pub lead_of : Recording → Stretch → Stretch → ℕ → Lead
lead_of E r s budget = let X = safe_vectors E budget in lead_where (before E.events X r s) (before E.events X s r)

-- ---- 17: what is no stretch, and two that overlap

-- the task is known, first is not 0 and does not exceed last, and last does not exceed the task's events
unfoldable pub is_stretch : Recording → Stretch → Bool
is_stretch E s =
    ltb s.task (tasks E) && leb 1 s.first && leb s.first s.last && leb s.last (length (own_events E.events s.task))

-- the two are of one task and have a position in common
unfoldable pub overlap : Stretch → Stretch → Bool
overlap r s = eqb r.task s.task && leb r.first s.last && leb s.first r.last

-- two stretches that do not overlap
unfoldable pub two_stretches : Recording → Stretch → Stretch → Bool
two_stretches E r s = is_stretch E r && is_stretch E s && not (overlap r s)

-- ---- the call

-- 17, then 9
unfoldable pub stretch_check : Recording → Stretch → Stretch → List ℕ → Check
stretch_check E r s work =
    unless (two_stretches E r s) Refusal.Stretch λ _.
    unless (work_fits E work) Refusal.Work λ _.
    Ok tt

-- the file's refusal, then these
unfoldable pub comparing_check : List ℕ → Stretch → Stretch → List ℕ → Check
comparing_check f r s work = and_then (file_check f) λ _. stretch_check (recording_of f) r s work

-- the answer, or the refusal
abbrev pub compared_by : Recording → Stretch → Stretch → ℕ → Check → Result Lead Refusal
compared_by E r s budget (Ok tt) = Ok (lead_of E r s budget)
compared_by E r s budget (Err x) = Err x

-- what comparing two stretches answers
unfoldable pub compared_of : List ℕ → Stretch → Stretch → ℕ → List ℕ → Result Lead Refusal
compared_of f r s budget work = compared_by (recording_of f) r s budget (comparing_check f r s work)

-- the work memory after comparing: filled as after analysing
unfoldable pub work_after_comparing : List ℕ → Stretch → Stretch → ℕ → List ℕ → List ℕ
work_after_comparing f r s budget work = after (comparing_check f r s work) (λ _. filled (recording_of f) budget work) work
