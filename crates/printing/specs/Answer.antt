-- The report of an answer, from record bytes, the number of tasks, and the numbers of a list.
-- Assumes nothing.
use Rattle.std.specs.Prelude.{ℕ, ◌*◌, ◌/◌, ◌≤◌, List, ◌++◌, length, Result, Ok, Err}
use Rattle.model.specs.declared.Trailer.{Trailer}
use Rattle.model.specs.declared.Refusal.{Refusal}
use Rattle.model.specs.declared.Analysis.{Analysis}
use Rattle.model.specs.Numbers.{each}
use Rattle.model.specs.Report.{result_line, refusal_line}
use Rattle.printing.specs.Entries.{nth_line}

-- the tasks of a file that reading accepts
abbrev pub tasks_in : Result Trailer Refusal → ℕ
tasks_in (Ok h) = h.counts.tasks
tasks_in (Err r) = 0

-- the list holds the entries of the answer
abbrev pub Holds : Result Analysis Refusal → List ℕ → Type 0
Holds (Ok made) list = 3 * made.pairs ≤ length list
Holds (Err r) list = Unit {0}

unfoldable pub answer_text : List ℕ → ℕ → Result Analysis Refusal → List ℕ → List ℕ
answer_text s t (Ok made) list = result_line (length s / 4) t made.passes made.settled made.pairs ++ each (nth_line s list) made.pairs
answer_text s t (Err r) list = refusal_line r
