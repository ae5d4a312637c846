-- or_kth meets its contract: by how many numbers are at most own it is seen which is the larger, and where the k-th least lies.
-- Assumes nothing.
use native.Mathlib.Omega.{arith}
use lib.Dec.{leb}
use lib.ListN.{get_or}
use Rattle.model.proofs.Tests.{le-leb}
use Rattle.model.proofs.Least.{kth_le, kth_gt}
use Rattle.vectors.proofs.Stores.{count_all}
use Rattle.model.specs.Reading.{most_events}
use Rattle.vectors.proofs.or_kth.Goals as goal

pub returns-then-k-at_most : goal.returns-then-k-at_most
returns-then-k-at_most c =
    let a = c.args in
    omega (arith, kth_le a.k a.s.now a.own (omega arith))

pub narrow-requires : goal.narrow-requires
narrow-requires c =
    let a = c.args in
    let lo = kth_gt a.k a.s.now a.own (omega arith) (omega arith) in
    let hi = kth_le a.k a.s.now most_events (omega arith) in
    omega arith

pub returns-then-k-at_most-2 : goal.returns-then-k-at_most-2
returns-then-k-at_most-2 c =
    let a = c.args in
    omega (arith, kth_gt a.k a.s.now a.own (omega arith) (omega arith))

pub narrow-requires-2 : goal.narrow-requires-2
narrow-requires-2 c =
    let a = c.args in
    let lo = kth_gt a.k a.s.now a.own (omega arith) (omega arith) in
    let all = count_all (λ y. leb y 65535) a.s.now (λ i. le-leb (get_or a.s.now i 0) 65535 (omega (arith, c.type_inv.s i))) in
    let hi = kth_le a.k a.s.now 65535 (omega arith) in
    omega arith

pub returns : goal.returns
returns c =
    let a = c.args in
    omega (arith, kth_gt a.k a.s.now a.own (omega arith) (omega arith))
