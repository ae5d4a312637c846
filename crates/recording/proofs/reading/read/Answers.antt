-- `recording::reading::read` meets its contract. Each return cites the law of the test that led to it. Assumes nothing.
use native.Mathlib.Omega.{arith}
use mathlib.Core.Path.{◌≡◌, ap, ◌∙◌}
use mathlib.Core.Bool.{true}
use mathlib.Core.List.{List}
use Prim.Native.Nat.{ℕ, ◌+◌, ◌*◌}
use lib.ListN.{length}
use Rattle.model.specs.Refusals.{Check}
use Rattle.model.specs.Recording.{first_fault}
use Rattle.model.specs.File.{trailer_at, record_bytes, level_count, recording_by}
use Rattle.model.specs.Reading.{known_edition, in_range, file_check}
use Rattle.rules.proofs.Laws.{passed, failed}
use Rattle.model.proofs.Checks.{handed_on}
use Rattle.recording.proofs.Files.{refused_by, accepted_by, too_short, other_edition, no_extent, out_of_range, not_up, by_records, part_length}
use Rattle.recording.proofs.reading.read.Goals as goal
use Rattle.recording.proofs.reading.read.Goals.{Else-file-lt16, Else-not-known_edition, Else-h-level_bytes, Else-not-in_range, Else-not-posts_up}

pub returns-then-file-lt16 : goal.returns-then-file-lt16
returns-then-file-lt16 c =
    refused_by _ _ (too_short _ c.if-file-lt16.true)

pub returns-then-not-known_edition : goal.returns-then-not-known_edition
returns-then-not-known_edition c =
    refused_by _ _ (other_edition _ c.if-file-lt16.false _ c.trailer_of-h.ensures.0 (failed c.known_edition.ensures c.if-not-known_edition.true))

-- what each test that has passed says
known : (c : Else-not-known_edition) → known_edition c.trailer_of-h.result.counts ≡ true
known c = passed c.known_edition.ensures c.if-not-known_edition.false

pub returns-then-h-level_bytes : goal.returns-then-h-level_bytes
returns-then-h-level_bytes c =
    refused_by _ _
    (no_extent _ c.if-file-lt16.false _ c.trailer_of-h.ensures.0 (known (goal.at.returns-then-h-level_bytes c).Else-not-known_edition)
    (λ e. c.if-h-level_bytes.true (let n = c.level_count-level_bytes.ensures.0 in omega arith)))

met : (c : Else-h-level_bytes) → let h = c.trailer_of-h.result in h.start + 4 * h.records + level_count h.counts ≡ trailer_at c.args.file.now
met c = let n = c.level_count-level_bytes.ensures.0 in let t = c.if-h-level_bytes.false in omega arith

pub returns-then-not-in_range : goal.returns-then-not-in_range
returns-then-not-in_range c =
    let a = goal.at.returns-then-not-in_range c in
    refused_by _ _
    (out_of_range _ c.if-file-lt16.false _ c.trailer_of-h.ensures.0 (known a.Else-not-known_edition) (met a.Else-h-level_bytes)
    (failed c.in_range.ensures c.if-not-in_range.true))

pub levels_of-levels-requires : goal.levels_of-levels-requires
levels_of-levels-requires c =
    omega (arith, met (goal.at.levels_of-levels-requires c).Else-h-level_bytes)

ranged : (c : Else-not-in_range) → in_range c.trailer_of-h.result.counts c.trailer_of-h.result.records ≡ true
ranged c = passed c.in_range.ensures c.if-not-in_range.false

pub returns-then-not-posts_up : goal.returns-then-not-posts_up
returns-then-not-posts_up c =
    let a = goal.at.returns-then-not-posts_up c in
    refused_by _ _
    (not_up _ c.if-file-lt16.false _ c.trailer_of-h.ensures.0 (known a.Else-not-known_edition) (met a.Else-h-level_bytes) (ranged a.Else-not-in_range)
    _ _ c.levels_of-levels.ensures c.post_bytes.ensures (failed c.posts_up.ensures c.if-not-posts_up.true))

pub records_of-requires : goal.records_of-requires
records_of-requires c =
    omega (arith, met (goal.at.records_of-requires c).Else-h-level_bytes)

pub first_fault-requires : goal.first_fault-requires
first_fault-requires c =
    let a = goal.at.first_fault-requires c in
    (omega (arith, ap length c.records_of.ensures, part_length c.args.file.now c.trailer_of-h.result (omega (arith, met a.Else-h-level_bytes))), ranged a.Else-not-in_range)

-- the check of the records is that of the file
checked : (c : Else-not-posts_up) → {s : List ℕ} → s ≡ record_bytes c.args.file.now c.trailer_of-h.result → {x : Check}
    → x ≡ first_fault (recording_by s c.trailer_of-h.result.counts c.levels_of-levels.result.now) c.trailer_of-h.result.records → file_check c.args.file.now ≡ x
checked c p q =
    by_records _ c.if-file-lt16.false _ c.trailer_of-h.ensures.0 (passed c.known_edition.ensures c.if-not-known_edition.false)
    (let n = c.level_count-level_bytes.ensures.0 in let t = c.if-h-level_bytes.false in omega arith) (passed c.in_range.ensures c.if-not-in_range.false)
    _ _ c.levels_of-levels.ensures c.post_bytes.ensures
    (passed c.posts_up.ensures c.if-not-posts_up.false) _ p _ q

pub returns : goal.returns
returns c =
    accepted_by _ _ c.trailer_of-h.ensures.0 (checked (goal.at.returns c).Else-not-posts_up c.records_of.ensures c.first_fault.ensures ∙ c.in_ok-first_fault.was)

pub returns-in_err-first_fault : goal.returns-in_err-first_fault
returns-in_err-first_fault c =
    handed_on _ _ c.from_residual.ensures
    ∙ refused_by _ _ (checked (goal.at.returns-in_err-first_fault c).Else-not-posts_up c.records_of.ensures c.first_fault.ensures ∙ c.in_err-first_fault.was)
