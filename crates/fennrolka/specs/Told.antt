-- What the functions for callers in C tell of an answer: its code, and its numbers in their places.
-- Assumes nothing.
use Rattle.std.specs.Prelude.{ℕ, List, [], ◌∷◌, Result, Ok, Err}
use Rattle.model.specs.declared.Refusal.{Refusal}
use Rattle.model.specs.declared.Event.{Event}
use Rattle.model.specs.declared.Trailer.{Trailer}
use Rattle.model.specs.declared.Analysis.{Analysis}
use Rattle.model.specs.Numbers.{bit}
use Rattle.model.specs.Refusals.{number_of, record_of, pairs_of}
use Rattle.model.specs.Recording.{semaphores_of, flags_of}

-- ---- the code: 0, or the number of the refusal

abbrev pub code_of : {A : Type 0} → Result A Refusal → ℕ
code_of (Ok x) = 0
code_of (Err r) = number_of r

-- ---- the numbers: after a refusal those that have no meaning are 0, and the last is the faulty record

-- edition, start, events, tasks, semaphores, flags, cells, record
abbrev pub told_of_trailer : Trailer → List ℕ
told_of_trailer h =
    h.counts.edition ∷ h.start ∷ h.records ∷ h.counts.tasks ∷ semaphores_of h.counts ∷ flags_of h.counts ∷ h.counts.cells ∷ 0 ∷ []

abbrev pub told_of_reading : Result Trailer Refusal → List ℕ
told_of_reading (Ok h) = told_of_trailer h
told_of_reading (Err r) = 0 ∷ 0 ∷ 0 ∷ 0 ∷ 0 ∷ 0 ∷ 0 ∷ record_of r ∷ []

-- task, kind, object, record
abbrev pub told_of_looked : Result Event Refusal → List ℕ
told_of_looked (Ok v) = v.task ∷ v.kind ∷ v.object ∷ 0 ∷ []
told_of_looked (Err r) = 0 ∷ 0 ∷ 0 ∷ record_of r ∷ []

-- passes, settled, pairs, record; after 10 the pairs that the list should hold
abbrev pub told_of_analysis : Result Analysis Refusal → List ℕ
told_of_analysis (Ok made) = made.passes ∷ bit made.settled ∷ made.pairs ∷ 0 ∷ []
told_of_analysis (Err r) = 0 ∷ 0 ∷ pairs_of r ∷ record_of r ∷ []
