-- The report of the answer is that of the file.
-- Assumes nothing.
use Prim.Native.Nat.{ℕ, ◌*◌, ◌/◌, ◌≤◌, ◌<◌}
use Rattle.std.specs.Prelude.{Result, Ok, Err}
use mathlib.Core.Path.{◌≡◌, refl, sym, ap, ◌∙◌}
use mathlib.Core.List.{List, ◌++◌}
use native.Mathlib.Omega.{arith}
use lib.ListN.{length, drop, length-append}
use Rattle.model.specs.Refusals.{Check}
use Rattle.model.specs.declared.Refusal.{Refusal}
use Rattle.model.specs.declared.Analysis.{Analysis}
use Rattle.model.specs.Recording.{size, tasks}
use Rattle.model.specs.File.{trailer_of, record_bytes, level_bytes, recording_of}
use Rattle.model.specs.Reading.{file_check, reading_of, records_of}
use Rattle.model.specs.Passes.{run, budget_of}
use Rattle.model.specs.Pairs.{listed, entry_numbers}
use Rattle.model.specs.Analysing.{work_check, analysis_check, analysis_of, work_after_analysing, list_after_analysing}
use Rattle.model.proofs.Tests.{lt-ltb, le-ltb}
use Rattle.model.proofs.Listed.{numbers_length}
use Rattle.model.proofs.Uncut.{analysis_passed}
use Rattle.model.proofs.Files.{events_length}
use Rattle.model.specs.Text.{bytes}
use Rattle.model.specs.Report.{laid, filling}
use Rattle.printing.specs.Output.{Put}
use Rattle.model.specs.Report.{result_line, result_text, report_by, most_bytes, is_long, report_of, work_after_reporting, list_after_reporting}
use Rattle.work.specs.Lent.{budget_in}
use Rattle.work.proofs.Accepted.{the_budget}
use Rattle.printing.specs.Answer.{tasks_in, Holds, answer_text}
use Rattle.printing.proofs.Putting.{put_laid}
use Rattle.printing.proofs.Listing.{each_entry}

module _ (f : List ℕ) where
  -- ---- an accepted file: its records, events and tasks

  the_records : file_check f ≡ Ok tt → records_of f ≡ record_bytes f (trailer_of f)
  unfolding records_of
  the_records q = rw q

  the_events : file_check f ≡ Ok tt → length (records_of f) / 4 ≡ size (recording_of f)
  unfolding recording_of
  the_events q = rw (the_records q) (sym (events_length (record_bytes f (trailer_of f))))

  the_tasks : file_check f ≡ Ok tt → tasks_in (reading_of f) ≡ tasks (recording_of f)
  unfolding reading_of recording_of
  the_tasks q = rw q

  -- ---- the budget of an accepted file is N × N + 1, and that of a refused file does not matter

  alike : {A : Type 0} (g : ℕ → A) (c : Check) → file_check f ≡ c → ((r : Refusal) → file_check f ≡ Err r → g (budget_in (records_of f)) ≡ g (budget_of (recording_of f)))
      → g (budget_in (records_of f)) ≡ g (budget_of (recording_of f))
  unfolding reading_of
  alike g (Ok tt) q h = ap g (the_budget f (trailer_of f) (rw q) (records_of f) (the_records q) (level_bytes f (trailer_of f)) refl)
  alike g (Err r) q h = h r q

  pub same_answer : (work list : List ℕ) → analysis_of f (budget_in (records_of f)) work list ≡ analysis_of f (budget_of (recording_of f)) work list
  unfolding analysis_of analysis_check work_check
  same_answer work list = alike (λ b. analysis_of f b work list) (file_check f) refl (λ r q. rw q)

  pub same_work : (work : List ℕ) → work_after_analysing f (budget_in (records_of f)) work ≡ work_after_analysing f (budget_of (recording_of f)) work
  unfolding work_after_analysing work_check
  same_work work = alike (λ b. work_after_analysing f b work) (file_check f) refl (λ r q. rw q)

  pub same_list : (work list : List ℕ) → list_after_analysing f (budget_in (records_of f)) work list ≡ list_after_analysing f (budget_of (recording_of f)) work list
  unfolding list_after_analysing analysis_check work_check
  same_list work list = alike (λ b. list_after_analysing f b work list) (file_check f) refl (λ r q. rw q)

  -- ---- the answer

  module _ (b : ℕ) (work list : List ℕ) where
    pub held : (c : Check) → analysis_check f b work list ≡ c → Holds (analysis_of f b work list) (list_after_analysing f b work list)
    unfolding analysis_of list_after_analysing
    held (Ok tt) q =
        let l = listed (recording_of f) b in
        rw q (omega (arith, length-append (entry_numbers l) (drop (3 * length l) list), numbers_length l))
    held (Err r) q = rw q tt

    pub the_answer : (c : Check) → analysis_check f b work list ≡ c
        → answer_text (records_of f) (tasks_in (reading_of f)) (analysis_of f b work list) (list_after_analysing f b work list) ≡ report_by (recording_of f) b c
    unfolding answer_text analysis_of list_after_analysing result_text recording_of
    the_answer (Ok tt) q =
        let p = (analysis_passed f b work list q).0 in
        let E = recording_of f in
        let l = listed E b in
        rw (q, the_events p, the_tasks p, the_records p)
        (ap (λ (x : List ℕ). result_line (size E) (tasks E) (run E b).passes (run E b).settled (length l) ++ x) (each_entry (record_bytes f (trailer_of f)) l (drop (3 * length l) list)))
    the_answer (Err r) q = rw q

-- ---- what the program prints, and what it leaves

-- the four parts of the contract
abbrev pub Printed : (f work list out work' list' out' : List ℕ) (r : ℕ) → Type 0
Printed f work list out work' list' out' r =
    (r ≡ filling (report_of f work list) out) × ((out' ≡ laid (report_of f work list) out) × ((work' ≡ work_after_reporting f work) × (list' ≡ list_after_reporting f work list)))

pub long_printed : (f work list out out' : List ℕ) (r : ℕ) → most_bytes < length f → Put out out' 0 (bytes "too long\n") r → Printed f work list out work list out' r
unfolding is_long report_of work_after_reporting list_after_reporting
long_printed f work list out out' r h p =
    let (o, n) = put_laid out out' (bytes "too long\n") r p in rw (lt-ltb most_bytes (length f) h) (n, (o, (refl, refl)))

-- a file that is not too long: what the calls gave
pub record Called (f work list s : List ℕ) (b t : ℕ) (a : Result Analysis Refusal) (work' list' : List ℕ) : Type 0 where
  pub records : s ≡ records_of f
  pub budget : b ≡ budget_in s
  pub tasks : t ≡ tasks_in (reading_of f)
  pub answer : a ≡ analysis_of f b work list
  pub work_left : work' ≡ work_after_analysing f b work
  pub list_left : list' ≡ list_after_analysing f b work list

module _ (f work list s : List ℕ) (b t : ℕ) (a : Result Analysis Refusal) (work' list' : List ℕ) (c : Called f work list s b t a work' list') where
  the_call : b ≡ budget_in (records_of f)
  the_call = c.budget ∙ ap budget_in c.records

  pub called_holds : Holds a list'
  called_holds = rw (c.answer, c.list_left) (held f b work list (analysis_check f b work list) refl)

  the_text : answer_text s t a list' ≡ report_by (recording_of f) (budget_of (recording_of f)) (analysis_check f (budget_of (recording_of f)) work list)
  the_text =
      rw (c.records, c.tasks, c.answer, c.list_left, the_call, same_answer f work list, same_list f work list)
      (the_answer f (budget_of (recording_of f)) work list (analysis_check f (budget_of (recording_of f)) work list) refl)

  pub short_printed : (out out' : List ℕ) (r : ℕ) → length f ≤ most_bytes → Put out out' 0 (answer_text s t a list') r → Printed f work list out work' list' out' r
  unfolding is_long report_of work_after_reporting list_after_reporting
  short_printed out out' r h p =
      let (o, n) = put_laid out out' (answer_text s t a list') r p in
      rw (le-ltb most_bytes (length f) h, sym the_text)
      (n, (o, (c.work_left ∙ rw the_call (same_work f work), c.list_left ∙ rw the_call (same_list f work list))))
