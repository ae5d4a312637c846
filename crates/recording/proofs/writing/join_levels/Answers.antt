-- `recording::writing::join_levels` meets its contract: the start bytes are copied to the front, and the post bytes behind them. Assumes nothing.
use Rattle.recording.proofs.Outputs.{joined}
use Rattle.recording.proofs.writing.join_levels.Goals as goal

pub returns : goal.returns
returns c =
    let a = c.args in
    joined _ a.starts.now a.posts.now c.copy_at.new.out _ c.copy_at.ensures c.copy_at-2.ensures
