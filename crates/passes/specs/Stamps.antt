-- When vectors last changed, and what that tells: an event whose raising reads nothing that has changed since its last turn stays as
-- it is (document 02, No. 7). Event e has its turn in the pass that begins at `base` at the time base + e, and a pass takes 1,024.
-- Assumes nothing.
use Rattle.std.specs.Prelude.{ℕ, ◌+◌, ◌*◌, ◌≤◌, ◌<◌, ◌≡◌, Bool, true, cond, ◌&&◌, List, [], ltb, eqb, length, get_or, set}
use Rattle.model.specs.declared.Event.{Event}
use Rattle.model.specs.Recording.{Recording, size, event_in, signal, wait, post, flag_wait}
use Rattle.model.specs.Vectors.{Vectors}
use Rattle.model.specs.Passes.{raised}
use Rattle.events.specs.Chains.{slot_of}

-- a stamp for each event, one for no event, one for each slot of the chains and one for all other events
abbrev pub stamps : ℕ
stamps = 1218

-- the place of the stamp of a slot
abbrev pub slot_stamp : ℕ → ℕ
slot_stamp y = 1025 + y

-- the place of the stamp of what serves the event v: the signals on its semaphore, the posts on its flag, or no event
unfoldable pub served_at : Event → ℕ
served_at v = cond (eqb v.kind wait) (slot_stamp (slot_of signal v.object)) (cond (eqb v.kind flag_wait) (slot_stamp (slot_of post v.object)) 1024)

-- the stamp at place i is below `since`
abbrev pub below : List ℕ → ℕ → ℕ → Bool
below when since i = ltb (get_or when i 0) since

-- nothing that the raising of e reads has changed from `since` on: neither its vector, nor those of its three sources, nor what serves it
unfoldable pub still : List Event → List ℕ → List ℕ → ℕ → ℕ → Bool
still l sources when e since =
    below when since e
    && below when since (get_or sources (3 * e) 0)
    && below when since (get_or sources (3 * e + 1) 0)
    && below when since (get_or sources (3 * e + 2) 0)
    && below when since (served_at (event_in l e))

-- the vector of e, which is the event v, changed at this time
abbrev pub touched : Event → ℕ → ℕ → List ℕ → List ℕ
touched v e time when = set (set when e time) (slot_stamp (slot_of v.kind v.object)) time

-- the running state before the turn of e in the pass that begins at `base`: stamps lie in the past, and an event that has read nothing
-- changed since its last turn stays as it is
pub record Known (E : Recording) (X : Vectors) (sources when : List ℕ) (base e : ℕ) : Type 0 where
  pub room : length when ≡ stamps
  pub past : (i : ℕ) → get_or when i 0 < base + e
  pub clean : (a since : ℕ) → a < size E → since ≤ base + a → (e ≤ a → since + 1024 ≤ base + a)
      → still E.events sources when a since ≡ true → raised E X a ≡ get_or X a []

-- passes begin from 1,024 on and, whatever the budget, none later than at 1,024 × 2³², so no time is beyond a 64 bit number
abbrev pub Timed : ℕ → Type 0
Timed base = (1024 ≤ base) × (base ≤ 4398046511104)
