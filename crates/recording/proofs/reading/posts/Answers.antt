-- `recording::reading::posts` meets its contract. Assumes nothing.
use Rattle.recording.proofs.Files.{post_part}
use Rattle.recording.proofs.reading.posts.Goals as goal

pub returns : goal.returns
returns c =
    rw (c.post_bytes.ensures, c.levels.ensures) (post_part _ _ c.counts_of.ensures)
