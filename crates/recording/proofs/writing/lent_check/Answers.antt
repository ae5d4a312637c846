-- `recording::writing::lent_check` meets its contract. Each return cites the law of the test that led to it. Assumes nothing.
use mathlib.Core.Path.{◌≡◌}
use mathlib.Core.Bool.{true, ◌&&◌}
use Prim.Native.Nat.{◌/◌}
use lib.ListN.{length}
use Rattle.model.specs.Reading.{known_edition, in_range, posts_up}
use Rattle.rules.proofs.Laws.{passed, failed}
use Rattle.recording.proofs.Outputs.{together, other_edition, ragged, beyond, other_number, all_kept}
use Rattle.recording.proofs.writing.lent_check.Goals as goal

pub returns-then-not-known_edition : goal.returns-then-not-known_edition
returns-then-not-known_edition c =
    other_edition _ _ _ _ (failed c.known_edition.ensures c.if-not-known_edition.true)

pub returns-then-records-ne0 : goal.returns-then-records-ne0
returns-then-records-ne0 c =
    let known : known_edition c.args.counts ≡ true = passed c.known_edition.ensures c.if-not-known_edition.false in
    ragged _ _ _ _ known c.if-records-ne0.true

pub returns-then-not-ranged : goal.returns-then-not-ranged
returns-then-not-ranged c =
    let known : known_edition c.args.counts ≡ true = passed c.known_edition.ensures c.if-not-known_edition.false in
    let tested : (c.in_range.result && c.posts_up.result)
    ≡ (in_range c.args.counts (length c.args.records.now / 4) && posts_up c.args.posts.now) = together c.in_range.ensures c.posts_up.ensures in
    beyond _ _ _ _ known c.if-records-ne0.false (failed tested c.if-not-ranged.true)

pub returns-then-not-fitting : goal.returns-then-not-fitting
returns-then-not-fitting c =
    let known : known_edition c.args.counts ≡ true = passed c.known_edition.ensures c.if-not-known_edition.false in
    let tested : (c.in_range.result && c.posts_up.result)
    ≡ (in_range c.args.counts (length c.args.records.now / 4) && posts_up c.args.posts.now) = together c.in_range.ensures c.posts_up.ensures in
    other_number _ _ _ _ known c.if-records-ne0.false (passed tested c.if-not-ranged.false) (failed c.levels_fit-fitting.ensures c.if-not-fitting.true)

pub returns : goal.returns
returns c =
    let known : known_edition c.args.counts ≡ true = passed c.known_edition.ensures c.if-not-known_edition.false in
    let tested : (c.in_range.result && c.posts_up.result)
    ≡ (in_range c.args.counts (length c.args.records.now / 4) && posts_up c.args.posts.now) = together c.in_range.ensures c.posts_up.ensures in
    all_kept _ _ _ _ known c.if-records-ne0.false (passed tested c.if-not-ranged.false) (passed c.levels_fit-fitting.ensures c.if-not-fitting.false)
