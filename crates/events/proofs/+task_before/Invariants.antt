-- The measure is the number of records that are left to look at.
use Rattle.events.proofs.+task_before.Given as goal

abbrev pub decreases-task_before : goal.decreases-task_before
decreases-task_before l = l.n
