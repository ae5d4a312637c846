-- What release staff rely on (document 02, No. 2): the list in task order has exactly the pairs of the list as document 01 had it,
-- with the same marks.
-- Assumes nothing.
use Rattle.std.specs.Prelude.{ℕ, ◌≡◌, List, ◌↔◌, length, Ok}
use Rattle.model.specs.declared.Trailer.{Trailer}
use Rattle.model.specs.Recording.{Recording}
use Rattle.model.specs.File.{recording_of}
use Rattle.model.specs.Reading.{reading_of}
use Rattle.model.specs.Orders.{file_order}
use Rattle.model.specs.Passes.{safe_vectors}
use Rattle.model.specs.Recorded.{recorded}
use Rattle.model.specs.Pairs.{Entry, entries_in, listed, Among, OnList}

-- the list by cell, then lower, then higher event
abbrev pub listed_by_file : Recording → ℕ → List Entry
listed_by_file E budget = entries_in E (safe_vectors E budget) (recorded E) (file_order E)

pub record SamePairs (E : Recording) (budget : ℕ) : Type 0 where
  -- the pairs of the one list, in either order, with their marks, are those of the other
  pub pairs : (a b m : ℕ) → OnList E a b budget m ↔ Among (listed_by_file E budget) a b m
  -- and they are as many
  pub as_many : length (listed E budget) ≡ length (listed_by_file E budget)

-- the statement, proved as `same_pairs` in proofs/SamePairs.antt
abbrev pub SamePairsListed : Type 0
SamePairsListed = (f : List ℕ) (h : Trailer) → reading_of f ≡ Ok h → (budget : ℕ) → SamePairs (recording_of f) budget
