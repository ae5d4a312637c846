-- What the program prints of a file (document 01, Two events, writing, printing). Every line ends in the byte 0A.
-- Assumes nothing.
use Rattle.std.specs.Prelude.{ℕ, min, Bool, true, false, List, [], ◌∷◌, ◌++◌, ltb, eqb, length, take, drop, Ok, Err}
use Prim.Native.String.{String}
use Rattle.model.specs.declared.Event.{Event}
use Rattle.model.specs.declared.Refusal.{Refusal}
use Rattle.model.specs.Refusals.{Check, number_of, record_of}
use Rattle.model.specs.Recording.{Recording, size, tasks, event_in}
use Rattle.model.specs.File.{recording_of}
use Rattle.model.specs.Passes.{run, budget_of}
use Rattle.model.specs.Pairs.{Entry, listed}
use Rattle.model.specs.Analysing.{analysis_check, work_after_analysing, list_after_analysing}
use Rattle.model.specs.Text.{bytes, decimal}

-- a word and a number
unfoldable pub field : String → ℕ → List ℕ
field word n = bytes word ++ decimal n

abbrev pub settled_word : Bool → List ℕ
settled_word true = bytes "yes"
settled_word false = bytes "no"

-- the first line: N, T, passes made, settled, and pairs
unfoldable pub result_line : ℕ → ℕ → ℕ → Bool → ℕ → List ℕ
result_line n t passes settled pairs =
    field "events " n ++ field " tasks " t ++ field " passes " passes ++ bytes " settled " ++ settled_word settled ++ field " pairs " pairs ++ bytes "\n"

-- a mark: 1 is sure, else open
abbrev pub mark_word : Bool → List ℕ
mark_word true = bytes "sure"
mark_word false = bytes "open"

-- the line of an entry: cell, the event of the lower task, that of the higher task, mark
unfoldable pub entry_line : ℕ → ℕ → ℕ → ℕ → List ℕ
entry_line cell a b m = field "cell " cell ++ field " " a ++ field " " b ++ bytes " " ++ mark_word (eqb m 1) ++ bytes "\n"

-- the line of an entry in a recording
unfoldable pub entry_text : List Event → Entry → List ℕ
entry_text l p = entry_line (event_in l p.first).object p.first p.second p.mark

-- one line for each entry
unfoldable pub entries_text : List Event → List Entry → List ℕ
entries_text l [] = []
entries_text l (p ∷ es) = entry_text l p ++ entries_text l es

-- the line of a refusal: number, then record
unfoldable pub refusal_line : Refusal → List ℕ
refusal_line r = field "refused " (number_of r) ++ field " " (record_of r) ++ bytes "\n"

-- the report of an analysis with a budget
unfoldable pub result_text : Recording → ℕ → List ℕ
result_text E budget =
    result_line (size E) (tasks E) (run E budget).passes (run E budget).settled (length (listed E budget)) ++ entries_text E.events (listed E budget)

-- of a recording that passes, the result; else the refusal
abbrev pub report_by : Recording → ℕ → Check → List ℕ
report_by E budget (Ok tt) = result_text E budget
report_by E budget (Err r) = refusal_line r

-- the program reads files of at most so many bytes
abbrev pub most_bytes : ℕ
most_bytes = 16384

-- a longer file is too long, and then nothing else is computed
abbrev pub if_long : {A : Type 0} → Bool → A → (Unit {0} → A) → A
if_long true long rest = long
if_long false long rest = rest tt

unfoldable pub is_long : List ℕ → Bool
is_long f = ltb most_bytes (length f)

-- what the program prints of a file, with these work numbers and this list lent
unfoldable pub report_of : List ℕ → List ℕ → List ℕ → List ℕ
report_of f work list =
    if_long (is_long f) (bytes "too long\n") λ _.
    let E = recording_of f in report_by E (budget_of E) (analysis_check f (budget_of E) work list)

-- what it leaves in them
unfoldable pub work_after_reporting : List ℕ → List ℕ → List ℕ
work_after_reporting f work = if_long (is_long f) work λ _. work_after_analysing f (budget_of (recording_of f)) work

unfoldable pub list_after_reporting : List ℕ → List ℕ → List ℕ → List ℕ
list_after_reporting f work list = if_long (is_long f) list λ _. list_after_analysing f (budget_of (recording_of f)) work list

-- ---- the report in a lent output: what does not fit is left off, and what it does not reach is kept

-- the output with the text at its start
unfoldable pub laid : List ℕ → List ℕ → List ℕ
laid text out = take (length out) text ++ drop (length text) out

-- how many bytes of it the text fills
unfoldable pub filling : List ℕ → List ℕ → ℕ
filling text out = min (length text) (length out)
