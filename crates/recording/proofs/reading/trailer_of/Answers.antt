-- `recording::reading::trailer_of` meets its contract. Each return rewrites the definition by the tests and the calls that led to it. Assumes nothing.
use Rattle.model.specs.File.{trailer_of}
use Rattle.recording.proofs.reading.trailer_of.Goals as goal

pub returns : goal.returns
unfolding trailer_of
returns c = (
  simp (c.u32_at.ensures.0, c.u32_at-2.ensures.0, c.u16_at.ensures, c.u16_at-2.ensures, c.u16_at-3.ensures, c.u16_at-4.ensures),
  c.u32_at.ensures.1,
  c.u32_at-2.ensures.1,
)
