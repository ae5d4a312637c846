-- What the raising of an event reads (document 02, No. 7): a pass may leave an event as it is where nothing that its raising reads has
-- changed since its last turn.
-- Assumes nothing.
use Rattle.std.specs.Prelude.{ℕ, ◌<◌, ◌≡◌, ◌⊎◌, length, get_or}
use mathlib.Core.List.{[], ◌∷◌, Memᴰ}
use Rattle.model.specs.Recording.{Recording, kind_of, object_of, wait, flag_wait}
use Rattle.model.specs.Vectors.{Vectors}
use Rattle.model.specs.Passes.{sources, events_on, serving, raised}

-- e is a wait of either kind
abbrev pub Waiting : Recording → ℕ → Type 0
Waiting E e = (kind_of E e ≡ wait) ⊎ (kind_of E e ≡ flag_wait)

-- raising e reads the vector of a: of e and its sources, and for a wait of its semaphore's signals or its flag's posts
abbrev pub Reads : Recording → ℕ → ℕ → Type 0
Reads E e a = Memᴰ a (e ∷ sources E.events e) ⊎ (Waiting E e × Memᴰ a (events_on E.events (serving (kind_of E e)) (object_of E e)))

-- event a has the same vector in X and in Y
abbrev pub Alike : Vectors → Vectors → ℕ → Type 0
Alike X Y a = get_or X a [] ≡ get_or Y a []

-- the statement, proved as `reads_only` in proofs/Raising.antt
pub record ReadsOnly : Type 0 where
  -- where the vectors that are read are alike, so is the raised one
  pub alike : (E : Recording) (X Y : Vectors) (e : ℕ) → e < length X → e < length Y → ((a : ℕ) → Reads E e a → Alike X Y a)
      → raised E X e ≡ raised E Y e
  -- and where raising e changed nothing, it again changes nothing
  pub again : (E : Recording) (X Y : Vectors) (e : ℕ) → e < length X → e < length Y → ((a : ℕ) → Reads E e a → Alike X Y a)
      → raised E X e ≡ get_or X e [] → raised E Y e ≡ get_or Y e []
