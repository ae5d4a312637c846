-- fill_row meets its contract: the part is filled with 0, and where the row has the task, its number is x.
-- Assumes nothing.
use Rattle.std.proofs.Common.{◌≡◌, rules, replicate}
use Rattle.vectors.proofs.Filling.{part_zero, part_own}
use Rattle.vectors.proofs.fill_row.Goals as goal

pub returns-then-own-tasks : goal.returns-then-own-tasks
returns-then-own-tasks c =
    let a = c.args in
    let e : c.fill.new.self ≡ replicate a.tasks 0 = search rules in
    part_own a.v.now c.fill.new.self a.at a.tasks a.own a.x c.requires e c.if-own-tasks.true

pub returns-else-own-tasks : goal.returns-else-own-tasks
returns-else-own-tasks c =
    let a = c.args in
    let e : c.fill.new.self ≡ replicate a.tasks 0 = search rules in
    part_zero a.v.now c.fill.new.self a.at a.tasks a.own a.x c.requires e c.if-own-tasks.false
