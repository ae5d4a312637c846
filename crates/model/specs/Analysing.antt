-- What analysing answers, and what it leaves in the lent memory (document 01, List and marks and Refusal table).
-- Assumes nothing.
use Rattle.std.specs.Prelude.{ℕ, ◌*◌, Bool, List, ◌++◌, leb, length, drop, Result, Ok, Err}
use Rattle.model.specs.declared.Refusal.{Refusal}
use Rattle.model.specs.Refusals.{Check, unless, and_then, after}
use Rattle.model.specs.declared.Analysis.{Analysis}
use Rattle.model.specs.Recording.{Recording, size, tasks}
use Rattle.model.specs.File.{recording_of}
use Rattle.model.specs.Reading.{file_check}
use Rattle.model.specs.Vectors.{flat}
use Rattle.model.specs.Passes.{safe_vectors, passes_made, is_settled}
use Rattle.model.specs.Recorded.{recorded}
use Rattle.model.specs.Pairs.{listed, entry_numbers}

-- the work memory has 2 × N × T numbers
abbrev pub work_fits : Recording → List ℕ → Bool
work_fits E work = leb (2 * (size E * tasks E)) (length work)

-- the work memory filled: the safe vectors, the recorded vectors, and beyond them what was there
unfoldable pub filled : Recording → ℕ → List ℕ → List ℕ
filled E budget work = flat (safe_vectors E budget) ++ flat (recorded E) ++ drop (2 * (size E * tasks E)) work

-- the list has 3 × pairs numbers
abbrev pub list_fits : Recording → ℕ → List ℕ → Bool
list_fits E budget list = leb (3 * length (listed E budget)) (length list)

-- the file's refusal, then 9
unfoldable pub work_check : List ℕ → List ℕ → Check
work_check f work = and_then (file_check f) λ _. unless (work_fits (recording_of f) work) Refusal.Work λ _. Ok tt

-- then 10, with the pairs needed
unfoldable pub analysis_check : List ℕ → ℕ → List ℕ → List ℕ → Check
analysis_check f budget work list =
    and_then (work_check f work) λ _.
    let E = recording_of f in unless (list_fits E budget list) (Refusal.List (length (listed E budget))) λ _. Ok tt

-- passes made, settled, and pairs
abbrev pub analysed : ℕ → Bool → ℕ → Result Analysis Refusal
analysed passes settled pairs = Ok (record { passes = passes; settled = settled; pairs = pairs })

-- those of a run
abbrev pub done : Recording → ℕ → Result Analysis Refusal
done E budget = analysed (passes_made E budget) (is_settled E budget) (length (listed E budget))

abbrev pub analysis_by : Recording → ℕ → Check → Result Analysis Refusal
analysis_by E budget (Ok tt) = done E budget
analysis_by E budget (Err r) = Err r

-- what analysing answers
unfoldable pub analysis_of : List ℕ → ℕ → List ℕ → List ℕ → Result Analysis Refusal
analysis_of f budget work list = analysis_by (recording_of f) budget (analysis_check f budget work list)

-- the work memory after analysing: filled, also after 10
unfoldable pub work_after_analysing : List ℕ → ℕ → List ℕ → List ℕ
work_after_analysing f budget work = after (work_check f work) (λ _. filled (recording_of f) budget work) work

-- the list after analysing: the entries, and beyond the last one what was there
unfoldable pub list_after_analysing : List ℕ → ℕ → List ℕ → List ℕ → List ℕ
list_after_analysing f budget work list =
    after (analysis_check f budget work list)
    (λ _. let l = listed (recording_of f) budget in entry_numbers l ++ drop (3 * length l) list) list
