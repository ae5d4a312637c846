-- Naming.name_entries meets its contract. Assumes nothing.
use mathlib.Core.Path.{sym, subst}
use Prim.Native.Nat.{◌-◌}
use native.Mathlib.Omega.{arith}
use Rattle.together.specs.Naming.{OfFirst}
use Rattle.together.proofs.Naming.{five_numbers, none_turned, same_entry, turn}
use Rattle.together.proofs.lent.Naming.name_entries.Goals as goal

pub loop-i-init : goal.loop-i-init
loop-i-init c =
    none_turned _ _ _

pub name_entry-requires : goal.name_entry-requires
name_entry-requires c =
    let k = c.loop-i in
    let same = same_entry _ _ _ k.i (k.i - 1) _ k.invariant (omega arith) in
    (subst (OfFirst c.args.self.now.first.records.now) (sym same) (c.requires.0 (k.i - 1) (omega arith)), omega (arith, k.invariant.as_long))

pub loop-i-preserved : goal.loop-i-preserved
loop-i-preserved c =
    let k = c.loop-i in turn _ _ _ k.i (k.i - 1) _ _ (omega arith) k.auto.i (five_numbers _ _ _ _) c.requires.1 k.invariant c.name_entry.ensures
