-- `alike::tasks_alike` meets its contract. The invariant: the tasks below `task` are alike. Assumes nothing.
use mathlib.Core.Path.{refl, ◌∙◌}
use Rattle.model.specs.Together.{tasks_alike}
use Rattle.model.proofs.Checks.{handed_on}
use Rattle.alike.proofs.Laws.{alike_so_far, first_differing}
use Rattle.alike.proofs.tasks_alike.Goals as goal

pub loop-task-init : goal.loop-task-init
unfolding tasks_alike
loop-task-init c =
    refl

pub returns-in_err-records_alike : goal.returns-in_err-records_alike
returns-in_err-records_alike c =
    handed_on _ _ c.from_residual.ensures ∙ first_differing _ _ _ _ c.loop-task.invariant c.records_alike.ensures _ c.in_err-records_alike.was _ c.loop-task-test.true

pub loop-task-preserved : goal.loop-task-preserved
loop-task-preserved c =
    alike_so_far _ _ _ _ c.loop-task.invariant c.records_alike.ensures c.in_ok-records_alike.was
