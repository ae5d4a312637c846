-- The parts of a file (document 01, The recording file; 02, No. 1 and 6): its fields, the preamble, the records' part, the start bytes,
-- the post bytes, and a walk's steps.
-- Proved as `parts` in proofs/Rows.antt. Assumes nothing.
use Rattle.std.specs.Prelude.{ℕ, ◌≡◌, List, [], ◌∷◌, ◌++◌, Some, None}
use Rattle.model.specs.File.{trailer_of}
use Rattle.model.specs.Reading.{preamble_of, records_of, starts_of, posts_of}
use Rattle.model.specs.Walking.{step_at}
use Rattle.model.specs.Rows.Starred.{W, P, Accepts, Refuses}
use Rattle.model.specs.Rows.Faults.{trailer}
use Rattle.model.specs.Rows.Flagged.{kernel}

-- a trailer whose bytes are 1 to 16
abbrev pub counting : List ℕ
counting = 1 ∷ 2 ∷ 3 ∷ 4 ∷ 5 ∷ 6 ∷ 7 ∷ 8 ∷ 9 ∷ 10 ∷ 11 ∷ 12 ∷ 13 ∷ 14 ∷ 15 ∷ 16 ∷ []

-- files with the preamble 7, 8, 9 and one record: a write, without level bytes, with two start bytes, and with two post bytes besides,
-- and a wait that nothing serves
abbrev pub kept : List ℕ
kept = 7 ∷ 8 ∷ 9 ∷ W 0 ++ trailer 3 1 1 0 1 1

abbrev pub stocked : List ℕ
stocked = 7 ∷ 8 ∷ 9 ∷ W 0 ++ (5 ∷ 6 ∷ trailer 3 1 1 2 1 2)

abbrev pub flagged : List ℕ
flagged = 7 ∷ 8 ∷ 9 ∷ W 0 ++ (5 ∷ 6 ∷ 3 ∷ 4 ∷ 3 ∷ 0 ∷ 0 ∷ 0 ∷ 1 ∷ 0 ∷ 0 ∷ 0 ∷ 1 ∷ 0 ∷ 2 ∷ 2 ∷ 1 ∷ 0 ∷ 3 ∷ 0 ∷ [])

abbrev pub broken : List ℕ
broken = 7 ∷ 8 ∷ 9 ∷ P 0 ++ trailer 3 1 1 1 0 1

-- the bytes of two records and of half a record
abbrev pub ragged : List ℕ
ragged = 1 ∷ 2 ∷ 3 ∷ 4 ∷ 5 ∷ 6 ∷ 7 ∷ 8 ∷ 9 ∷ 10 ∷ []

pub record Parts : Type 0 where
  pub fields : trailer_of counting ≡ record { start = 67305985; records = 134678021; counts = record { tasks = 2569; semaphores = 3083; cells = 3597; edition = 4111 } }
  pub kept_read : Accepts kept
  pub kept_preamble : preamble_of kept ≡ 7 ∷ 8 ∷ 9 ∷ []
  pub kept_records : records_of kept ≡ W 0
  pub kept_starts : starts_of kept ≡ []
  pub kept_posts : posts_of kept ≡ []
  pub stocked_read : Accepts stocked
  pub stocked_preamble : preamble_of stocked ≡ 7 ∷ 8 ∷ 9 ∷ []
  pub stocked_records : records_of stocked ≡ W 0
  pub stocked_starts : starts_of stocked ≡ 5 ∷ 6 ∷ []
  pub stocked_posts : posts_of stocked ≡ []
  pub flagged_read : Accepts flagged
  pub flagged_preamble : preamble_of flagged ≡ 7 ∷ 8 ∷ 9 ∷ []
  pub flagged_records : records_of flagged ≡ W 0
  pub flagged_starts : starts_of flagged ≡ 5 ∷ 6 ∷ []
  pub flagged_posts : posts_of flagged ≡ 3 ∷ 4 ∷ []
  pub broken_read : Refuses broken 8 0
  pub broken_preamble : preamble_of broken ≡ []
  pub broken_records : records_of broken ≡ []
  pub broken_starts : starts_of (5 ∷ trailer 0 0 0 1 0 2) ≡ []
  pub broken_posts : posts_of (kernel 0 1 1 0 (5 ∷ []) (3 ∷ []) []) ≡ []
  -- a step before the end, the last one, at the end, and past it
  pub step_0 : step_at ragged 0 ≡ record { item = Some (record { task = 1; kind = 2; object = 1027 }); next = 1 }
  pub step_1 : step_at ragged 1 ≡ record { item = Some (record { task = 5; kind = 6; object = 2055 }); next = 2 }
  pub step_2 : step_at ragged 2 ≡ record { item = None; next = 2 }
  pub step_3 : step_at ragged 3 ≡ record { item = None; next = 3 }
