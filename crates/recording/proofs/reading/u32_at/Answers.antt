-- `recording::reading::u32_at` meets its contract. Each return rewrites the definition by the tests and the calls that led to it. Assumes nothing.
use native.Mathlib.Omega.{arith}
use Rattle.model.specs.File.{u32_at}
use Rattle.recording.proofs.reading.u32_at.Goals as goal

pub returns : goal.returns
unfolding u32_at
returns c =
    (rw (c.u16_at.ensures, c.u16_at-2.ensures), omega arith)
