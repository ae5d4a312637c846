-- The rows: each computes.
-- Assumes nothing.
use mathlib.Core.Path.{refl}
use Rattle.model.proofs.Computing.{rows}
use Rattle.fennrolka.specs.Looking.{looked_among, looked_of}
use Rattle.fennrolka.specs.Calls.{Calls}

pub calls : Calls
unfolding rows looked_among looked_of
calls = record {
  read = (refl, refl);
  read_refused = (refl, refl);
  event = (refl, refl);
  no_event = (refl, refl);
  event_refused = (refl, refl);
  settled = (refl, refl);
  not_settled = (refl, refl);
  no_work = (refl, refl);
  no_list = (refl, refl);
  cut = refl;
  whole = refl;
}
