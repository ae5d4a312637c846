-- The order of the list as document 02, No. 2 says it: within a cell an entry names the event of the lower task first, and entries
-- go by cell, lower task, its position, higher task, its position.
-- Assumes nothing.
use Rattle.std.specs.Prelude.{ℕ, ◌<◌, ◌≡◌, Bool, true, false, ◌&&◌, ◌||◌, ltb, eqb}
use mathlib.Core.List.{List, [], ◌∷◌, ◌++◌, Memᴰ}
use Rattle.model.specs.Recording.{Recording, task_of, object_of}
use Rattle.model.specs.Vectors.{position}
use Rattle.model.specs.Pairs.{Entry, listed}

-- the first number in which the two lists differ is less in the first
unfoldable pub is_less : List ℕ → List ℕ → Bool
is_less [] m = false
is_less (x ∷ l) [] = false
is_less (x ∷ l) (y ∷ m) = ltb x y || (eqb x y && is_less l m)

-- each element comes before every one behind it
unfoldable pub Rising : {A : Type 0} → (A → A → Bool) → List A → Type 0
Rising before [] = Unit {0}
Rising {A} before (x ∷ l) = ((y : A) → Memᴰ y l → before x y ≡ true) × Rising before l

-- an event's task and its position
abbrev pub rank : Recording → ℕ → List ℕ
rank E e = task_of E e ∷ position E.events e ∷ []

-- what an entry goes by
abbrev pub key : Recording → Entry → List ℕ
key E p = object_of E p.first ∷ rank E p.first ++ rank E p.second

pub record Ascending (E : Recording) (budget : ℕ) : Type 0 where
  -- an entry names the event of the lower task first
  pub lower_first : (p : Entry) → Memᴰ p (listed E budget) → task_of E p.first < task_of E p.second
  -- entries go by cell, lower task, its position, higher task, its position
  pub by_key : Rising (λ p q. is_less (key E p) (key E q)) (listed E budget)

-- the statement, proved as `ascending` in proofs/Ascending.antt
abbrev pub AscendingListed : Type 0
AscendingListed = (E : Recording) (budget : ℕ) → Ascending E budget
