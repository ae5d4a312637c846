-- What the functions of this crate are lent, and what they hand back: equations over the definitions of the model.
-- Assumes nothing.
use Rattle.std.specs.Prelude.{ℕ, suc, ◌+◌, ◌*◌, ◌≤◌, ◌≡◌, Bool, cond, List, [], ◌++◌, leb, length, get_or, drop}
use Rattle.std.proofs.lemmas.List.Edits.{sets}
use Rattle.model.specs.declared.Counts.{Counts}
use Rattle.model.specs.Recording.{Recording}
use Rattle.model.specs.File.{recording_by}
use Rattle.model.specs.Vectors.{Vectors}
use Rattle.model.specs.Pairs.{Entry, entries_of, entry_numbers}
use Rattle.passes.specs.Lent.{vectors_in}

-- a definition over a recording, its safe and its recorded vectors, at those that are lent; a list reads no levels, so they are []
abbrev pub over : {A : Type 0} → (Recording → Vectors → Vectors → A) → List ℕ → Counts → List ℕ → List ℕ → A
over f s c x r = f (recording_by s c []) (vectors_in s c x) (vectors_in s c r)

-- the entries of the event at place i of an order with those behind it
abbrev pub row_of : Recording → Vectors → Vectors → List ℕ → ℕ → List Entry
row_of E X R order i = entries_of E X R (get_or order i 0) (drop (suc i) order)

-- the entries es are stored over `old` from place `at` on, and p is the place after them
pub record Stored (old : List ℕ) (at : ℕ) (es : List Entry) (out : List ℕ) (p : ℕ) : Type 0 where
  pub numbers : out ≡ sets old at (entry_numbers es)
  pub next : p ≡ at + 3 * length es

-- the entries es take the places from `at` to p, and where these are places of the list they are stored over `old`
pub record Laid (old : List ℕ) (at : ℕ) (es : List Entry) (out : List ℕ) (p : ℕ) : Type 0 where
  pub next : p ≡ at + 3 * length es
  pub stored : p ≤ length old → Stored old at es out p

-- no list that is counted has so many places, so a place is never beyond a 64 bit number
abbrev pub far : ℕ
far = 4294967296

-- the numbers that an entry is to have room for: its own three, and two more where the caller will widen it in place
abbrev pub Width : ℕ → Type 0
Width width = (3 ≤ width) × (width ≤ 5)

-- es are `pairs` entries; where the list has `width` numbers for each they are written to it, and nothing else of it changes
pub record WrittenList (width : ℕ) (es : List Entry) (old out : List ℕ) (fits : Bool) (pairs : ℕ) : Type 0 where
  pub counted : pairs ≡ length es
  pub room : fits ≡ leb (width * length es) (length old)
  pub written : out ≡ cond fits (entry_numbers es ++ drop (3 * length es) old) old
