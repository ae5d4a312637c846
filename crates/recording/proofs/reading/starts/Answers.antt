-- `recording::reading::starts` meets its contract. Assumes nothing.
use Rattle.recording.proofs.Files.{start_part}
use Rattle.recording.proofs.reading.starts.Goals as goal

pub returns : goal.returns
returns c =
    rw (c.start_bytes.ensures, c.levels.ensures) (start_part _ _ c.counts_of.ensures)
