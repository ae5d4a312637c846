-- What reads no levels: starting vectors, step 1 and the list are the same whatever the level bytes are.
-- Assumes nothing.
use Prim.Native.Nat.{ℕ}
use mathlib.Core.Path.{◌≡◌, refl}
use mathlib.Core.List.{List, []}
use Rattle.model.specs.declared.Counts.{Counts}
use Rattle.model.specs.File.{recording_by}
use Rattle.model.specs.Vectors.{Vectors, start}
use Rattle.model.specs.Passes.{gathered, step_one}
use Rattle.model.specs.Pairs.{race_pair, mark, entries_of, cell_entries, entries_in, task_order, entries}

module _ (s : List ℕ) (c : Counts) (b : List ℕ) where
  pub start_levels : start (recording_by s c []) ≡ start (recording_by s c b)
  unfolding start
  start_levels = refl

  pub step_one_levels : (X : Vectors) (e : ℕ) → step_one (recording_by s c []) X e ≡ step_one (recording_by s c b) X e
  unfolding step_one gathered
  step_one_levels X e = refl

  pub entries_levels : (X R : Vectors) → entries (recording_by s c []) X R ≡ entries (recording_by s c b) X R
  unfolding entries entries_in task_order cell_entries entries_of race_pair mark
  entries_levels X R = refl
