-- `events::before_or_fork` meets its contract. Assumes nothing.
use mathlib.Core.Path.{◌≡◌, sym, ap, ◌∙◌}
use native.Mathlib.Omega.{arith}
use Rattle.model.specs.Recording.{event_in}
use Rattle.model.specs.File.{events_of}
use Rattle.model.specs.Passes.{previous, fork_of}
use Rattle.events.specs.Kept.{found_below}
use Rattle.events.proofs.Laws.{events_length}
use Rattle.events.proofs.Kept.{task_searched, before_at, before_none, at_number, no_number}
use Rattle.events.proofs.before_or_fork.Goals as goal
use Rattle.events.proofs.before_or_fork.Goals.{After-task_before-before}

the-before : (c : After-task_before-before) → found_below 1024 c.task_before-before.result ≡ previous (events_of c.args.records.now) c.args.e
the-before c =
    let n = events_length c.args.records.now in
    c.task_before-before.ensures ∙ task_searched (events_of c.args.records.now) c.args.tasks.now c.args.e c.requires.kept_tasks.0 (omega (arith, c.requires.records_len_bound))

pub returns-then-before-lt-MOST_EVENTS : goal.returns-then-before-lt-MOST_EVENTS
returns-then-before-lt-MOST_EVENTS c =
    let l = events_of c.args.records.now in
    let b = c.task_before-before.result in
    let r = before_at l c.args.e b _ (fork_of l (event_in l c.args.e).task) (the-before (goal.at.returns-then-before-lt-MOST_EVENTS c).After-task_before-before) (sym (at_number 1024 b (omega arith))) in
    (r.0, omega (arith, r.1, c.requires.records_len_bound))

-- the task of an event is a byte
pub returns : goal.returns
returns c =
    let l = events_of c.args.records.now in
    let n = events_length c.args.records.now in
    let b = c.task_before-before.result in
    let f = c.fork_of.ensures in (
      f.0
          ∙ ap (fork_of l) (c.requires.kept_tasks.0 c.args.e (omega (arith, c.requires.records_len_bound)))
          ∙ before_none l c.args.e _ _ (the-before (goal.at.returns c).After-task_before-before) (sym (no_number 1024 b (omega arith))),
      f.1,
    )
