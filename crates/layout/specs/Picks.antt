-- What picking records is lent.
-- Assumes nothing.
use Rattle.std.specs.Prelude.{ℕ, ◌+◌, ◌*◌, ◌≤◌, ◌<◌, List, length, get_or}

-- each number of the order o is that of a record of the record bytes s
abbrev pub Picks : List ℕ → List ℕ → Type 0
Picks s o = (i : ℕ) → i < length o → 4 * get_or o i 0 + 4 ≤ length s
