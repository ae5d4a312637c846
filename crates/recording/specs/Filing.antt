-- What writing checks once it is lent what the edition takes, of record bytes s, counts c and level bytes b.
-- Assumes nothing.
use Rattle.std.specs.Prelude.{ℕ, List, leb, length, Ok}
use Rattle.model.specs.declared.Counts.{Counts}
use Rattle.model.specs.declared.Refusal.{Refusal}
use Rattle.model.specs.Refusals.{Check, unless, and_then}
use Rattle.model.specs.Recording.{size, first_fault}
use Rattle.model.specs.File.{recording_by}
use Rattle.model.specs.Writing.{file_length}

-- the first faulty record, then the output's room
unfoldable pub filing_check : List ℕ → Counts → List ℕ → List ℕ → Check
filing_check s c b out =
    and_then (let E = recording_by s c b in first_fault E (size E)) λ _.
    unless (leb (file_length s b) (length out)) Refusal.Out λ _.
    Ok tt
