-- `events::gather` meets its contract: the chains are those of the events from e on. Assumes nothing.
use mathlib.Core.Path.{◌≡◌}
use native.Mathlib.Omega.{arith}
use Rattle.events.proofs.Chains.{start, slots_gathered}
use Rattle.events.proofs.gather.Goals as goal

pub loop-e-init : goal.loop-e-init
loop-e-init c =
    start _ _ _ (omega arith)

pub returns : goal.returns
returns c =
    let e : c.loop-e.e ≡ 0 = omega arith in slots_gathered _ _ (rw e at c.loop-e.invariant)
