-- Vectors in one flat list of work numbers, event by event: the rows of the list, and a row raised.
-- Assumes nothing.
use Rattle.std.specs.Prelude.{ℕ, zero, suc, ◌+◌, ◌-◌, ◌*◌, ◌≤◌, max, ◌≡◌, Bool, cond, not, List, [], ◌∷◌, map, eqb, length, get_or, take, drop, set, replicate}
use Rattle.model.specs.Numbers.{list_of}
use Rattle.model.specs.Vectors.{Vectors, number}
use Rattle.model.specs.Passes.{same_row}

-- the n rows of m numbers of a flat list
unfoldable pub chunks : ℕ → ℕ → List ℕ → Vectors
chunks zero m l = []
chunks (suc n) m l = take m l ∷ chunks n m (drop m l)

-- the n numbers from place a on raised, the one at a + t to f t
unfoldable pub raised_at : List ℕ → ℕ → (ℕ → ℕ) → ℕ → List ℕ
raised_at l a f zero = l
raised_at l a f (suc n) = set (raised_at l a f n) (a + n) (max (get_or l (a + n) 0) (f n))

-- of vectors of m numbers, that of event e raised, its number for task t to f t
unfoldable pub raised_to : ℕ → Vectors → ℕ → (ℕ → ℕ) → Vectors
raised_to m X e f = set X e (list_of (λ t. max (number X e t) (f t)) m)

-- of a flat list of rows of m numbers, number t of each row listed
unfoldable pub column : ℕ → List ℕ → ℕ → List ℕ → List ℕ
column m l t es = map (λ e. get_or l (e * m + t) 0) es

-- m numbers: x for task own, else 0
unfoldable pub own_row : ℕ → ℕ → ℕ → List ℕ
own_row m own x = list_of (λ t. cond (eqb t own) x 0) m

-- the numbers from place `at` on are 0
abbrev pub Zeros : ℕ → List ℕ → Type 0
Zeros at v = drop at v ≡ replicate (length v - at) 0

-- from o to c no number falls, and r says whether one rose
pub record Rose (o c : List ℕ) (r : Bool) : Type 0 where
  pub kept : length o ≡ length c
  pub up : (i : ℕ) → get_or o i 0 ≤ get_or c i 0
  pub flag : r ≡ not (same_row o c)
