-- The promise speaks of something: the printed file of document 01 is accepted, its settled list has an entry that is sure, and
-- two of its events conflict and are off the list. Proved as `instance` in proofs/Instance.antt. Assumes nothing.
use Rattle.std.specs.Prelude.{ℕ, ◌≡◌, true, Ok}
use mathlib.Core.List.{Memᴰ}
use Rattle.model.specs.Recording.{event}
use Rattle.model.specs.File.{trailer_of, recording_of}
use Rattle.model.specs.Reading.{reading_of}
use Rattle.model.specs.Pairs.{conflict, listed, OnList}
use Rattle.model.specs.Rows.Starred.{G}

pub record Instance : Type 0 where
  pub accepted : reading_of G ≡ Ok (trailer_of G)
  pub listed_sure : Memᴰ (record { first = 3; second = 2; mark = 1 }) (listed (recording_of G) 37)
  pub conflicting : conflict (event (recording_of G) 0) (event (recording_of G) 2) ≡ true
  pub off_list : (m : ℕ) → ¬ (OnList (recording_of G) 0 2 37 m)
