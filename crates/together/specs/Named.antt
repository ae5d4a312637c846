-- An entry by name, with what is lent for naming it.
-- Assumes nothing.
use Rattle.std.specs.Prelude.{ℕ, List}
use Rattle.model.specs.Pairs.{Entry}
use Rattle.together.specs.declared.lent.Naming.{Naming}
use Rattle.together.specs.Naming.{named_by}

-- an entry by name, with these lent
abbrev pub named_with : Naming → Entry → List ℕ
named_with n = named_by n.first.records.now n.second.records.now n.second.counts n.second.numbers.now n.kept.now
