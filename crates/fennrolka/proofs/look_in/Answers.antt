-- `fennrolka::look_in` meets its contract. Each return rewrites the definition by the test that led to it. Assumes nothing.
use borrow.Author.Tests.{lt-ltb, le-ltb}
use Rattle.events.proofs.Laws.{events_length}
use Rattle.fennrolka.specs.Looking.{looked_among}
use Rattle.fennrolka.proofs.look_in.Goals as goal

pub returns-then-e-records : goal.returns-then-e-records
unfolding looked_among
returns-then-e-records c =
    simp (events_length, lt-ltb _ _ c.if-e-records.true, c.event_at.ensures)

pub returns : goal.returns
unfolding looked_among
returns c =
    simp (events_length, le-ltb _ _ c.if-e-records.false)
