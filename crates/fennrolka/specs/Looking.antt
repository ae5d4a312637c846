-- Looking for an event of a file.
-- Assumes nothing.
use Rattle.std.specs.Prelude.{ℕ, cond, List, ltb, length, Result, Ok, Err}
use Rattle.model.specs.declared.Trailer.{Trailer}
use Rattle.model.specs.declared.Event.{Event}
use Rattle.model.specs.declared.Refusal.{Refusal}
use Rattle.model.specs.Recording.{event_in}
use Rattle.model.specs.File.{recording_of}
use Rattle.model.specs.Reading.{reading_of}

-- event e of these; 11 where there is none
unfoldable pub looked_among : List Event → ℕ → Result Event Refusal
looked_among l e = cond (ltb e (length l)) (Ok (event_in l e)) (Err Refusal.Event)

abbrev pub looked_by : List Event → ℕ → Result Trailer Refusal → Result Event Refusal
looked_by l e (Ok h) = looked_among l e
looked_by l e (Err r) = Err r

-- event e of the file: the file's refusal comes first
unfoldable pub looked_of : List ℕ → ℕ → Result Event Refusal
looked_of f e = looked_by (recording_of f).events e (reading_of f)
