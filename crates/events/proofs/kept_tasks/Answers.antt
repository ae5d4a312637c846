-- `events::kept_tasks` meets its contract: what is kept for the first e events is right. Assumes nothing.
use mathlib.Core.Path.{◌≡◌, sym}
use native.Mathlib.Omega.{arith}
use lib.ListN.{length-set}
use Rattle.model.specs.Recording.{event_in}
use Rattle.model.specs.File.{events_of}
use Rattle.events.proofs.Laws.{events_length, task_at}
use Rattle.events.proofs.Kept.{kept_next}
use Rattle.events.proofs.kept_tasks.Goals as goal

pub loop-e-preserved : goal.loop-e-preserved
loop-e-preserved c =
    let s = c.args.records.now in
    let k = c.loop-e in
    record {
      wide = simp length-set k.invariant.wide;
      kept = kept_next (λ i a. a ≡ (event_in (events_of s) i).task) k.tasks k.e _ (omega arith) k.invariant.kept (sym (task_at s k.e (omega arith)));
    }

pub returns : goal.returns
returns c e l =
    let n = events_length c.args.records.now in
    c.loop-e.invariant.kept e (omega arith)
