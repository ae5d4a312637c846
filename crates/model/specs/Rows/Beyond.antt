-- What stands past an end and beyond a width. No accepted file comes there, and the definitions still say what counts.
-- Proved as `beyond` in proofs/Rows.antt. Assumes nothing.
use Rattle.std.specs.Prelude.{◌≡◌, false, [], ◌∷◌, None}
use Rattle.model.specs.declared.Counts.{Counts}
use Rattle.model.specs.Numbers.{nth, kth_least}
use Rattle.model.specs.Recording.{event, named}
use Rattle.model.specs.File.{event_at, trailer_of, recording_of}
use Rattle.model.specs.Orders.{place}
use Rattle.model.specs.Vectors.{number}
use Rattle.model.specs.Writing.{u16_bytes, u32_bytes}
use Rattle.model.specs.Text.{bytes, decimal}
use Rattle.model.specs.Rows.Starred.{A}

-- one of each
abbrev pub ones : Counts
ones = record { tasks = 1; semaphores = 1; cells = 1; edition = 1 }

pub record Beyond : Type 0 where
  pub no_trailer : trailer_of [] ≡ record { start = 0; records = 0; counts = record { tasks = 0; semaphores = 0; cells = 0; edition = 0 } }
  pub no_record : event_at [] 0 ≡ record { task = 0; kind = 0; object = 0 }
  pub no_event : event (recording_of A) 4 ≡ record { task = 0; kind = 0; object = 0 }
  pub kind_0 : named ones (record { task = 0; kind = 0; object = 0 }) ≡ false
  pub kind_7 : named ones (record { task = 0; kind = 7; object = 0 }) ≡ false
  pub kind_11 : named ones (record { task = 0; kind = 11; object = 0 }) ≡ false
  pub no_vector : number [] 0 0 ≡ 0
  pub no_task : number ((1 ∷ []) ∷ []) 0 1 ≡ 0
  pub no_place : place (2 ∷ 0 ∷ []) 1 ≡ 2
  pub no_match : nth (5 ∷ []) 1 ≡ None
  pub fewer_than_k : kth_least 3 (2 ∷ 1 ∷ []) ≡ 0
  pub k_0 : kth_least 0 (2 ∷ 1 ∷ []) ≡ 0
  pub bits_17 : u16_bytes 65538 ≡ 2 ∷ 0 ∷ []
  pub bits_33 : u32_bytes 4295032834 ≡ 2 ∷ 0 ∷ 1 ∷ 0 ∷ []
  pub digits_21 : decimal 100000000000000000000 ≡ bytes "00000000000000000000"
