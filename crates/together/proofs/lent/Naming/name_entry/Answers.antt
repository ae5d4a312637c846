-- Naming.name_entry meets its contract. Assumes nothing.
use mathlib.Core.Path.{◌≡◌}
use native.Mathlib.Omega.{arith}
use Prim.Native.Nat.{◌+◌, ◌-◌, ◌*◌}
use Rattle.together.proofs.Naming.{stored_named}
use Rattle.together.proofs.lent.Naming.name_entry.Goals as goal

pub returns : goal.returns
returns c =
    let placed = c.args.self.now.first.placed.placed in
    let at = 5 * c.args.i in
    let five : at + 5 - at ≡ 5 = omega arith in
    stored_named _ _ _ _ _ _ _ _ _ _ _ _ _ _ _ _ c.copy_from_slice.ensures.after five c.requires.1 c.event_at-v.ensures c.event_at-w.ensures (placed _ c.requires.0.0) (placed _ c.requires.0.1)
    c.either_mark-mark.ensures
