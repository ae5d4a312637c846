-- `rules::first_fault` meets its contract. The invariant: none of the first i records is faulty, and the running counts are theirs. Assumes nothing.
use mathlib.Core.Path.{◌≡◌, refl, sym, ◌∙◌}
use native.Mathlib.Omega.{arith}
use lib.ListN.{length, take}
use Rattle.model.specs.Recording.{first_fault}
use Rattle.model.specs.File.{events_of}
use Rattle.model.proofs.Files.{in_range_lem}
use Rattle.model.proofs.Checks.{handed_on}
use Rattle.rules.proofs.Laws.{before_length, before_next, fault_none, fault_first}
use Rattle.rules.proofs.Running.{start, next, room, few, passed_small}
use Rattle.rules.proofs.first_fault.Goals as goal

pub loop-i-init : goal.loop-i-init
unfolding first_fault
loop-i-init c =
    record { passed = refl; running = start; counts_kept = refl; levels_kept = refl }

pub record_check-requires : goal.record_check-requires
record_check-requires c =
    rw c.loop-i.invariant.counts_kept (few c.args.counts c.args.n c.requires.1)

pub returns-in_err-record_check : goal.returns-in_err-record_check
returns-in_err-record_check c =
    let k = c.loop-i.i in
    let g : length (take k (events_of c.args.records.now)) ≡ k = before_length c.args.records.now k (omega arith) in
    let checked = rw (c.loop-i.invariant.counts_kept, c.loop-i.invariant.levels_kept) at (c.record_check.ensures _ c.loop-i.invariant.running g) in
    handed_on _ _ c.from_residual.ensures ∙ fault_first _ _ _ _ c.loop-i.invariant.passed c.event_at-v.ensures checked _ c.in_err-record_check.was _ c.loop-i-test.true

pub note-requires : goal.note-requires
note-requires c =
    let k = c.loop-i.i in
    let g : length (take k (events_of c.args.records.now)) ≡ k = before_length c.args.records.now k (omega arith) in
    let checked = rw (c.loop-i.invariant.counts_kept, c.loop-i.invariant.levels_kept) at (c.record_check.ensures _ c.loop-i.invariant.running g) in
    let small = passed_small _ _ _ _ (few c.args.counts c.args.n c.requires.1) (sym c.in_ok-record_check.was ∙ checked) in
    let n = in_range_lem c.args.counts c.args.n c.requires.1 in
    (small, room _ _ _ _ c.loop-i.invariant.running small (omega (arith, g, n.few_records)))

pub loop-i-preserved : goal.loop-i-preserved
loop-i-preserved c =
    let e = c.in_ok-record_check.was in
    let k = c.loop-i.i in
    let g : length (take k (events_of c.args.records.now)) ≡ k = before_length c.args.records.now k (omega arith) in
    let checked = rw (c.loop-i.invariant.counts_kept, c.loop-i.invariant.levels_kept) at (c.record_check.ensures _ c.loop-i.invariant.running g) in
    let small = passed_small _ _ _ _ (few c.args.counts c.args.n c.requires.1) (sym e ∙ checked) in
    let go = next _ _ _ _ c.loop-i.invariant.running small in
    record {
      passed = fault_none _ _ _ _ c.loop-i.invariant.passed c.event_at-v.ensures checked e;
      running = rw (before_next c.args.records.now k _ (omega (arith, c.requires.0, c.loop-i-test.true)) c.event_at-v.ensures, c.note.ensures.on_after, c.note.ensures.own_after) go;
      counts_kept = c.note.ensures.rest_kept.0 ∙ c.loop-i.invariant.counts_kept;
      levels_kept = rw c.note.ensures.rest_kept.1 c.loop-i.invariant.levels_kept;
    }
