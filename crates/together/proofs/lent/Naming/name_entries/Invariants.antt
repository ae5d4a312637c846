-- Naming.name_entries meets its contract: the entries from i on are named, those below i are as they were. Assumes nothing.
use Rattle.together.specs.Named.{named_with}
use Rattle.together.proofs.Naming.{Turned}
use Rattle.together.proofs.lent.Naming.name_entries.Given as goal

abbrev pub invariant-loop-i : goal.invariant-loop-i
invariant-loop-i l =
    Turned (named_with l.self) l.pairs l.initial.list l.i l.list
