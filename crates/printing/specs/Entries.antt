-- The lines of the entries, from record bytes and the numbers of a list.
-- Assumes nothing.
use Rattle.std.specs.Prelude.{ℕ, List}
use Rattle.model.specs.File.{events_of}
use Rattle.model.specs.Pairs.{entry_at}
use Rattle.model.specs.Report.{entry_text}
use Rattle.model.specs.Recording.{event_in}

-- the object of event e
abbrev pub object_in : List ℕ → ℕ → ℕ
object_in s e = (event_in (events_of s) e).object

-- the line of entry i
unfoldable pub nth_line : List ℕ → List ℕ → ℕ → List ℕ
nth_line s list i = entry_text (events_of s) (entry_at list i)
