-- `recording::writing::write` meets its contract. What is lent passes its checks and is written from the joined level bytes, or it
-- does not and nothing is. Assumes nothing.
use native.Mathlib.Omega.{arith}
use Rattle.std.specs.Prelude.{Ok}
use mathlib.Core.Path.{◌≡◌, sym, ap, ◌∙◌}
use Prim.Native.Nat.{◌+◌, ◌≤◌}
use lib.ListN.{length, take, length-append}
use Rattle.model.specs.Writing.{lent_check}
use Rattle.model.proofs.Checks.{handed_on}
use Rattle.recording.proofs.Outputs.{ranged, few_levels, answered, left, refused, kept}
use Rattle.recording.proofs.writing.write.Goals as goal
use Rattle.recording.proofs.writing.write.Goals.{In_ok-lent_check, After-join_levels-levels}

-- what is lent passes
module _ (c : In_ok-lent_check) where
  passes : lent_check c.args.records.now (record { tasks = c.args.tasks; semaphores = c.args.semaphores; cells = c.args.cells; edition = c.args.edition }) c.args.starts.now c.args.posts.now ≡ Ok tt
  passes = sym c.lent_check.ensures ∙ c.in_ok-lent_check.was

  few : length c.args.starts.now + length c.args.posts.now ≤ 128
  few = few_levels _ _ _ _ passes

-- the level bytes are as many as start bytes and post bytes
joined : (c : After-join_levels-levels) → length (take (length c.args.starts.now + length c.args.posts.now) c.join_levels-levels.result) ≡ length c.args.starts.now + length c.args.posts.now
joined c = ap length c.join_levels-levels.ensures ∙ length-append c.args.starts.now c.args.posts.now

pub join_levels-levels-requires : goal.join_levels-levels-requires
join_levels-levels-requires c =
    few (goal.at.join_levels-levels-requires c).In_ok-lent_check

pub overflow_add-n : goal.overflow_add-n
overflow_add-n c =
    omega (arith, few (goal.at.overflow_add-n c).In_ok-lent_check)

pub slice_bounds-levels-end : goal.slice_bounds-levels-end
slice_bounds-levels-end c =
    omega (arith, few (goal.at.slice_bounds-levels-end c).In_ok-lent_check)

pub slice_bounds-write_checked-end : goal.slice_bounds-write_checked-end
slice_bounds-write_checked-end c =
    sym (joined (goal.at.slice_bounds-write_checked-end c).After-join_levels-levels)

pub write_checked-requires : goal.write_checked-requires
write_checked-requires c =
    let a = goal.at.write_checked-requires c in
    (ranged _ _ _ _ (passes a.In_ok-lent_check), omega (arith, few a.In_ok-lent_check, joined a.After-join_levels-levels))

pub returns : goal.returns
returns c =
    let p = passes (goal.at.returns c).In_ok-lent_check in
    let e = c.join_levels-levels.ensures in
    record { value = answered _ _ _ _ p _ _ e _ c.write_checked.ensures.value; out_after = left _ _ _ _ p _ _ e _ c.write_checked.ensures.out_after }

pub returns-in_err-lent_check : goal.returns-in_err-lent_check
returns-in_err-lent_check c =
    let p = sym c.lent_check.ensures ∙ c.in_err-lent_check.was in
    record { value = handed_on _ _ c.from_residual.ensures ∙ refused _ _ _ _ _ p _; out_after = kept _ _ _ _ _ p _ }
