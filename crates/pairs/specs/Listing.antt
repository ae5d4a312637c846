-- What the lent vectors show, and what an answer of the list tells.
-- Assumes nothing.
use Rattle.std.specs.Prelude.{ℕ, Bool, is_ok, Result, Ok, Err}
use Rattle.model.specs.Recording.{Recording}
use Rattle.model.specs.Vectors.{Vectors}
use Rattle.pairs.specs.declared.NoRoom.{NoRoom}
use Rattle.pairs.specs.declared.lent.PairVectors.{PairVectors}
use Rattle.pairs.specs.Lent.{over}

-- a definition over a recording, its safe and its recorded vectors, at those that are lent
abbrev pub by : {A : Type 0} → (Recording → Vectors → Vectors → A) → PairVectors → A
by f p = over f p.records.now p.counts p.safe.now p.recorded.now

-- whether the list had room for its entries, and how many they are
abbrev pub fits : Result ℕ NoRoom → Bool
fits r = is_ok r

abbrev pub pairs_of : Result ℕ NoRoom → ℕ
pairs_of (Ok n) = n
pairs_of (Err e) = e.pairs
