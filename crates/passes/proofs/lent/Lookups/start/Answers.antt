-- start meets its contract: over the zeros that are left, the later rows give the whole.
-- Assumes nothing.
use mathlib.Core.Path.{◌≡◌, sym, ap, ◌∙◌}
use mathlib.Core.List.{[]}
use Prim.Native.Nat.{ℕ, ◌-◌, ◌<◌}
use native.Mathlib.Omega.{arith}
use Rattle.std.proofs.Common.{rules}
use lib.ListN.{length, replicate}
use Rattle.model.specs.Recording.{size}
use Rattle.model.specs.File.{recording_by}
use Rattle.passes.proofs.Starts.{rows_start, rows_end, start_length, row_fits, row_stored, start_stored}
use Rattle.passes.proofs.lent.Lookups.start.Goals as goal

pub loop-e-init : goal.loop-e-init
loop-e-init c =
    let E = recording_by c.args.self.now.records.now c.args.self.now.counts [] in
    let z : c.fill.new.self ≡ replicate (length c.args.v.now) 0 = search rules in
    let n : length c.fill.new.self ≡ length c.args.v.now = c.fill.ensures.len in
    let m : length c.fill.new.self - 0 ≡ length c.args.v.now = omega (arith, n) in
    rw (rows_start E) (start_stored E c.fill.new.self (n ∙ c.requires), omega (arith, start_length E, c.requires, n), z ∙ ap (λ (k : ℕ). replicate k 0) (sym m))

pub start_event-requires : goal.start_event-requires
start_event-requires c =
    let k = c.loop-e in
    let E = recording_by c.args.self.now.records.now c.args.self.now.counts [] in
    let h : k.e < size E = omega (arith, c.args.self.now.prepared.placed.records.whole) in
    record { e_bound = (h, omega (arith, row_fits E k.e h, k.invariant.1, k.auto.v)); zeros = k.invariant.2 }

pub loop-e-preserved : goal.loop-e-preserved
loop-e-preserved c =
    let k = c.loop-e in
    let f = c.start_event in
    let E = recording_by c.args.self.now.records.now c.args.self.now.counts [] in
    let h : k.e < size E = omega (arith, c.args.self.now.prepared.placed.records.whole) in
    let r = row_stored E k.e h k.v f.new.v k.from f.ensures.v_after in
    (r.0 ∙ k.invariant.0, r.1 ∙ k.invariant.1, f.ensures.zeros_left)

pub returns : goal.returns
returns c =
    let k = c.loop-e in
    let E = recording_by c.args.self.now.records.now c.args.self.now.counts [] in
    rw (rows_end E k.e (omega (arith, c.args.self.now.prepared.placed.records.whole))) at k.invariant.0
