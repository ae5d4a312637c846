-- Passes made and vectors of small recordings (document 01, Passes and safe vectors and The recorded run).
-- Proved as `raised` in proofs/Rows.antt. Assumes nothing.
use Rattle.std.specs.Prelude.{ℕ, ◌≡◌, Bool, true, false, List, [], ◌∷◌, ◌++◌}
use Rattle.model.specs.File.{recording_of}
use Rattle.model.specs.Vectors.{Vectors}
use Rattle.model.specs.Passes.{safe_vectors, passes_made, is_settled}
use Rattle.model.specs.Recorded.{recorded}
use Rattle.model.specs.Rows.Starred.{of, S, P, Fork, Join, file, D, G}

-- the vector of an event, with 2 tasks and with 3
abbrev pub two : ℕ → ℕ → List ℕ
two a b = a ∷ b ∷ []

abbrev pub three : ℕ → ℕ → ℕ → List ℕ
three a b c = a ∷ b ∷ c ∷ []

-- with this budget, so many passes are made, settled or not, and these are the safe vectors
abbrev pub Raises : List ℕ → ℕ → ℕ → Bool → Vectors → Type 0
Raises f budget n s X =
    (passes_made (recording_of f) budget ≡ n) × (is_settled (recording_of f) budget ≡ s) × (safe_vectors (recording_of f) budget ≡ X)

abbrev pub Records : List ℕ → Vectors → Type 0
Records f R = recorded (recording_of f) ≡ R

-- a join of a task that has no record follows its fork
abbrev pub idle : List ℕ
idle = file 3 0 0 (Fork 0 2 ++ Join 1 2)

-- an access to cell 1 has nothing to do with the fork of task 1
abbrev pub apart : List ℕ
apart = file 3 0 2 (Fork 0 1 ++ of 6 2 1)

-- a signal on each of two semaphores, and a wait on each by a third task
abbrev pub crossed : List ℕ
crossed = file 3 2 0 (S 0 ++ of 1 1 1 ++ of 2 2 1 ++ of 2 2 0)

-- the last wait follows the first by a fork, which its vector has only once step 1 has raised it
abbrev pub handed : List ℕ
handed = file 3 1 0 (S 2 ++ S 2 ++ P 0 ++ Fork 0 1 ++ P 1)

-- the wait of task 2 reads a signal that is raised after it: it needs a second pass
abbrev pub slow : List ℕ
slow = file 3 1 0 (S 0 ++ S 0 ++ P 1 ++ P 2 ++ S 1)

pub record Raised : Type 0 where
  pub waited_twice : Raises D 37 2 true (three 1 0 0 ∷ three 2 0 0 ∷ three 0 1 0 ∷ three 0 0 1 ∷ three 2 1 2 ∷ three 2 1 3 ∷ [])
  pub waited_twice_recorded : Records D (three 1 0 0 ∷ three 2 0 0 ∷ three 0 1 0 ∷ three 2 0 1 ∷ three 2 1 2 ∷ three 2 1 3 ∷ [])
  pub forked_0 : Raises G 0 0 false (two 1 0 ∷ two 2 0 ∷ two 0 1 ∷ two 3 0 ∷ two 4 0 ∷ two 5 0 ∷ [])
  pub forked : Raises G 37 2 true (two 1 0 ∷ two 2 0 ∷ two 2 1 ∷ two 3 0 ∷ two 4 1 ∷ two 5 1 ∷ [])
  pub forked_recorded : Records G (two 1 0 ∷ two 2 0 ∷ two 2 1 ∷ two 3 0 ∷ two 4 1 ∷ two 5 1 ∷ [])
  pub idle_joined : Raises idle 5 2 true (three 1 0 0 ∷ three 1 1 0 ∷ [])
  pub idle_joined_recorded : Records idle (three 1 0 0 ∷ three 1 1 0 ∷ [])
  pub nothing_shared : Raises apart 5 1 true (three 1 0 0 ∷ three 0 0 1 ∷ [])
  pub two_semaphores : Raises crossed 17 2 true (three 1 0 0 ∷ three 0 1 0 ∷ three 0 1 1 ∷ three 1 1 2 ∷ [])
  pub two_semaphores_recorded : Records crossed (three 1 0 0 ∷ three 0 1 0 ∷ three 0 1 1 ∷ three 1 1 2 ∷ [])
  pub handed_on : Raises handed 1 1 false (three 0 0 1 ∷ three 0 0 2 ∷ three 1 0 1 ∷ three 2 0 1 ∷ three 2 1 2 ∷ [])
  pub slow_1 : Raises slow 1 1 false (three 1 0 0 ∷ three 2 0 0 ∷ three 1 1 0 ∷ three 0 0 1 ∷ three 1 2 0 ∷ [])
  pub slow_2 : Raises slow 2 2 false (three 1 0 0 ∷ three 2 0 0 ∷ three 1 1 0 ∷ three 1 0 1 ∷ three 1 2 0 ∷ [])
  pub slow_settled : Raises slow 26 3 true (three 1 0 0 ∷ three 2 0 0 ∷ three 1 1 0 ∷ three 1 0 1 ∷ three 1 2 0 ∷ [])
  pub slow_recorded : Records slow (three 1 0 0 ∷ three 2 0 0 ∷ three 1 1 0 ∷ three 2 0 1 ∷ three 1 2 0 ∷ [])
