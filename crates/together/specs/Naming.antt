-- Entries of three numbers, event, event and mark, turned into entries of five by name.
-- Assumes nothing.
use Rattle.std.specs.Prelude.{ℕ, ◌*◌, max, ◌≡◌, List, [], ◌∷◌, ◌++◌, get_or, drop}
use Rattle.model.specs.declared.Event.{Event}
use Rattle.model.specs.declared.Counts.{Counts}
use Rattle.model.specs.Numbers.{list_of, flat_map}
use Rattle.model.specs.Recording.{Recording, event_in}
use Rattle.model.specs.File.{events_of, recording_by}
use Rattle.model.specs.Vectors.{Vectors, position}
use Rattle.model.specs.Pairs.{mark, Entry, entry_at}
use Rattle.passes.specs.Lent.{vectors_in, Numbered}
use Rattle.work.specs.Lent.{recorded_in}
use Rattle.alike.specs.Alike.{Counterparts}

-- the first n entries of a list of such numbers
abbrev pub entries_at : List ℕ → ℕ → List Entry
entries_at list n = list_of (entry_at list) n

-- the mark of a pair a, b that the first recording marks m: the higher of m and the mark of the events of the second recording F
-- that are kept for the two, by its recorded vectors R
abbrev pub either_mark : Recording → Vectors → List ℕ → ℕ → ℕ → ℕ → ℕ
either_mark F R kept a b m = max m (mark F R (get_or kept a 0) (get_or kept b 0))

-- an entry by name: task and position, twice, in the events l of the first recording, then the mark
unfoldable pub named : List Event → Recording → Vectors → List ℕ → Entry → List ℕ
named l F R kept p =
    (event_in l p.first).task ∷ position l p.first ∷ (event_in l p.second).task ∷ position l p.second
    ∷ either_mark F R kept p.first p.second p.mark ∷ []

-- naming an entry, with these lent
abbrev pub named_by : List ℕ → List ℕ → Counts → List ℕ → List ℕ → Entry → List ℕ
named_by s s' c r kept = named (events_of s) (recording_by s' c []) (vectors_in s' c r) kept

-- both events of an entry are of the first recording
abbrev pub OfFirst : List ℕ → Entry → Type 0
OfFirst s p = Numbered s p.first × Numbered s p.second

-- the n entries of `old` are named, with some event of the second recording kept for each of the first that has its task and
-- position; beyond them nothing changes
pub record NamedAll (s s' : List ℕ) (c : Counts) (w : List ℕ) (n : ℕ) (old out : List ℕ) : Type 0 where
  pub kept : List ℕ
  pub counterparts : Counterparts (events_of s) (events_of s') kept
  pub entries : out ≡ flat_map (named (events_of s) (recording_by s' c []) (recorded_in s' c w) kept) (entries_at old n) ++ drop (5 * n) old
