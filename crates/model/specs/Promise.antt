-- Demand 3: what is promised of every file that reading accepts and of every budget, as one statement.
-- Assumes nothing.
use Rattle.std.specs.Prelude.{ℕ, ◌+◌, ◌*◌, ◌≤◌, ◌<◌, ◌≡◌, true, length, Ok}
use mathlib.Core.List.{List, Memᴰ}
use Rattle.model.specs.declared.Trailer.{Trailer}
use Rattle.model.specs.Recording.{Recording, size, event}
use Rattle.model.specs.File.{recording_of}
use Rattle.model.specs.Reading.{reading_of}
use Rattle.model.specs.Orders.{Always, Sometimes}
use Rattle.model.specs.Passes.{step_one, needed, candidates, pass_to, safe_vectors, passes_made, is_settled}
use Rattle.model.specs.Pairs.{conflict, Entry, OnList, listed}

pub record Promise (E : Recording) (budget : ℕ) : Type 0 where
  -- of each conflicting pair off the list, the event recorded first comes first in every admissible order
  pub off_list : (a b : ℕ) → a < b → b < size E → conflict (event E a) (event E b) ≡ true → ((m : ℕ) → ¬ (OnList E a b budget m)) → Always E a b
  -- each pair marked sure has an admissible order in which one event comes first and another in which the other does
  pub sure : (p : Entry) → Memᴰ p (listed E budget) → p.mark ≡ 1 → Sometimes E p.first p.second × Sometimes E p.second p.first
  -- a larger budget never adds a pair
  pub adds_none : (larger : ℕ) → budget ≤ larger → (a b m : ℕ) → OnList E a b larger m → (n : ℕ) × OnList E a b budget n
  -- or changes a mark
  pub keeps_marks : (larger : ℕ) → budget ≤ larger → (a b m n : ℕ) → OnList E a b larger m → OnList E a b budget n → m ≡ n
  -- with N events, every budget of N × N + 1 or more is settled
  pub settles : size E * size E + 1 ≤ budget → is_settled E budget ≡ true
  -- where one budget is settled, every larger one gives the same list and marks
  pub keeps_list : is_settled E budget ≡ true → (larger : ℕ) → budget ≤ larger → listed E larger ≡ listed E budget
  -- and the same pass count
  pub keeps_passes : is_settled E budget ≡ true → (larger : ℕ) → budget ≤ larger → passes_made E larger ≡ passes_made E budget

-- the statement, proved as `promise` in proofs/Promise.antt
abbrev pub Promised : Type 0
Promised = (f : List ℕ) (h : Trailer) → reading_of f ≡ Ok h → (budget : ℕ) → Promise (recording_of f) budget

-- fewer than k candidates never happens: of an accepted file, in no pass; proved as `enough_candidates` in proofs/Promise.antt
abbrev pub EnoughCandidates : Type 0
EnoughCandidates =
    (f : List ℕ) (h : Trailer) → reading_of f ≡ Ok h → (budget e : ℕ) → e < size (recording_of f)
    → let E = recording_of f in
    let X = step_one E (pass_to E (safe_vectors E budget) e) e in needed E X e ≤ length (candidates E X e)
