-- `events::gather_in` meets its contract: the chains are those of the places from i on. Assumes nothing.
use mathlib.Core.Path.{◌≡◌, sym, ap, ◌∙◌}
use Prim.Native.Nat.{◌+◌, ◌-◌}
use native.Mathlib.Omega.{arith}
use Rattle.model.specs.Recording.{event_in}
use Rattle.model.specs.File.{events_of}
use Rattle.model.specs.Pairs.{is_access_of}
use Rattle.events.proofs.Laws.{events_length}
use Rattle.events.proofs.Chains.{start, linked_next}
use Rattle.events.proofs.gather_in.Goals as goal

pub loop-i-init : goal.loop-i-init
loop-i-init c =
    start _ _ _ c.requires.1

pub event_at-v-requires : goal.event_at-v-requires
event_at-v-requires c =
    let k = c.loop-i in
    omega (arith, c.at_place.ensures, c.requires.0.numbered (k.i - 1) (omega arith), events_length c.args.records.now)

pub loop-i-preserved : goal.loop-i-preserved
loop-i-preserved c =
    let v = c.event_at-v in
    let a = c.at_place in
    let k = c.loop-i in
    let e : k.i ≡ k.i - 1 + 1 = omega arith in
    rw c.link.ensures
    (linked_next c.args.limit v.result _ _ _ _ (rw e at k.invariant) (λ x. ap (is_access_of x) (sym (v.ensures ∙ ap (event_in (events_of c.args.records.now)) a.ensures)))
    c.requires.1 c.requires.0.few (omega arith))
