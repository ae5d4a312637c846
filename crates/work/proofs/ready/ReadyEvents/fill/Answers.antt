-- fill meets its contract: the first part is the safe vectors, the rest the recorded ones and what was behind them. Assumes nothing.
use mathlib.Core.Path.{sym, ◌∙◌}
use native.Mathlib.Omega.{arith}
use lib.Seq.{length-take-le}
use Rattle.work.specs.Ready.{recording_of}
use Rattle.work.proofs.Parts.{filled_by}
use Rattle.work.proofs.ready.ReadyEvents.fill.Goals as goal

pub returns-clause-work_after : goal.returns-clause-work_after
returns-clause-work_after c =
    let e = c.numbers-half.ensures.0 in
    filled_by c.numbers-half.result c.args.work.now c.run-made.new.v (c.run-made.auto.v ∙ length-take-le _ _ (omega arith)) (omega arith) (recording_of c.args.self.now) c.args.budget c.record.new.v e
    c.run-made.ensures.v_after (c.record.ensures ∙ rw (sym e))
