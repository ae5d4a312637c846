-- What is promised of an order that shows a pair reversed (document 02, No. 5), as one statement over all files and calls.
-- Assumes nothing.
use Rattle.std.specs.Prelude.{ℕ, ◌≤◌, ◌≡◌, true, List, length, take, drop, Ok}
use Rattle.model.specs.declared.Trailer.{Trailer}
use Rattle.model.specs.Recording.{event}
use Rattle.model.specs.File.{trailer_of, recording_of}
use Rattle.model.specs.Reading.{reading_of}
use Rattle.model.specs.Orders.{Precedes, in_order, Admissible}
use Rattle.model.specs.Pairs.{conflict, OnList}
use Rattle.model.specs.Analysing.{work_fits}
use Rattle.model.specs.Reversed.{reversed_length, reversed_of, out_after_reversing}

-- the file g shows event x of the file f earlier than event y
pub record Shows (f : List ℕ) (x y : ℕ) (g : List ℕ) : Type 0 where
  -- reading accepts it, with start 0 and the number of records, the counts and the edition of f
  pub accepted : reading_of g ≡ Ok (record { start = 0; records = (trailer_of f).records; counts = (trailer_of f).counts })
  -- it holds the recording of f with its records in this order
  pub order : List ℕ
  pub holds : recording_of g ≡ in_order (recording_of f) order
  -- which is admissible
  pub admissible : Admissible (recording_of f) order
  -- and puts x earlier than y
  pub earlier : Precedes order x y

-- proved as `shown` in proofs/Shown.antt
pub record Shown : Type 0 where
  -- where the call answers a length, so many bytes of the output are a file that shows x earlier than y, and later ones do not change
  pub shows : (f : List ℕ) (x y : ℕ) (work out : List ℕ) (n : ℕ) → reversed_of f x y work out ≡ Ok n
      → Shows f x y (take n (out_after_reversing f x y work out)) × (drop n (out_after_reversing f x y work out) ≡ drop n out)
  -- for a pair that is sure at any budget both calls answer a length, where the memory is large enough, and so show it both ways
  pub both : (f : List ℕ) (h : Trailer) → reading_of f ≡ Ok h → (a b budget : ℕ) → OnList (recording_of f) a b budget 1
      → (work out : List ℕ) → work_fits (recording_of f) work ≡ true → reversed_length f ≤ length out
      → (reversed_of f a b work out ≡ Ok (reversed_length f)) × (reversed_of f b a work out ≡ Ok (reversed_length f))
  -- of conflicting pairs it does so for no others: one for which a call answers a length is sure at every budget
  pub sure_alone : (f : List ℕ) (x y : ℕ) (work out : List ℕ) (n : ℕ) → reversed_of f x y work out ≡ Ok n
      → conflict (event (recording_of f) x) (event (recording_of f) y) ≡ true → (budget : ℕ) → OnList (recording_of f) x y budget 1
