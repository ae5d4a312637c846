-- Records picked from others by their numbers, in any order: how many bytes they are, which events, and by which rules they are
-- accepted.
-- Assumes nothing.
use Prim.Native.Nat.{ℕ, zero, suc, ◌+◌, ◌*◌, ◌/◌, ◌%◌, ◌<◌}
use Rattle.std.specs.Prelude.{Ok}
use mathlib.Core.Path.{◌≡◌, refl, sym, ap, ◌∙◌}
use mathlib.Core.Bool.{true}
use mathlib.Core.List.{List, [], ◌∷◌, ◌++◌, map}
use native.Mathlib.Nat.{le_of_suc-le-suc, not-suc-le-zero, suc-add}
use native.Mathlib.Omega.{arith}
use lib.Dec.{eqb}
use lib.ListN.{length, get_or, length-append, length-map}
use lib.Seq.{ext_get_or}
use Rattle.model.specs.declared.Event.{Event}
use Rattle.model.specs.declared.Counts.{Counts}
use Rattle.model.specs.declared.Refusal.{Refusal}
use Rattle.model.specs.Numbers.{flat_map}
use Rattle.model.specs.Refusals.{unless}
use Rattle.model.specs.Recording.{Recording, size, no_event, event, event_in, known_kind, named, first_fault, Accepted}
use Rattle.model.specs.File.{u16_at, event_at, events_of, levels_by, recording_by, recording_of}
use Rattle.model.specs.Reading.{known_edition, in_range, posts_up, reading_of}
use Rattle.model.specs.Orders.{rearranged, in_order, Obeying}
use Rattle.model.specs.Writing.{record_at, records_in, file_in, levels_fit, records_check}
use Rattle.model.proofs.Tests.{eq-eqb}
use Rattle.model.proofs.Lists.{list_of_at}
use Rattle.model.proofs.Place.{at_map}
use Rattle.model.proofs.Accept.{kept_at, kept_accepted}
use Rattle.model.proofs.Files.{events_length}
use Rattle.model.proofs.RoundTrip.{records_checks, written_accepted}

-- the numbers of an order are below n
abbrev pub Within : ℕ → List ℕ → Type 0
Within n o = (i : ℕ) → i < length o → get_or o i 0 < n

-- ---- the records of an accepted recording, in any order

-- they are accepted where they obey the rules in that order: kind and names are as they were
pub obeying_accepted : (E : Recording) → Accepted E → (o : List ℕ) → Within (size E) o → Obeying E.levels (rearranged E o) → Accepted (in_order E o)
obeying_accepted E acc o within rules =
    kept_accepted (in_order E o)
    (λ i l.
    let n = length-map o (event E) in
    let k : i < length o = omega arith in
    let same = at_map (event E) i o 0 no_event k in
    let own = kept_at E acc (get_or o i 0) (within i k) in
    record {
      kind = ap (known_kind E.counts) same ∙ own.kind;
      names = ap (named E.counts) same ∙ own.names;
      rules = rules i l;
    })

-- ---- picked from record bytes

-- four bytes for each number
pub in_length : (s o : List ℕ) → length (records_in s o) ≡ 4 * length o
unfolding records_in flat_map
in_length s [] = refl
in_length s (e ∷ o) = length-append (record_at s e) (records_in s o) ∙ (let h = in_length s o in omega arith)

pub in_count : (s o : List ℕ) → length (records_in s o) / 4 ≡ length o
in_count s o = let n = in_length s o in omega arith

-- the events behind the first
event_behind : (a b c d : ℕ) (r : List ℕ) (i : ℕ) → event_at (a ∷ b ∷ c ∷ d ∷ r) (suc i) ≡ event_at r i
unfolding event_at u16_at
event_behind a b c d r i = let q : 4 * suc i ≡ suc (suc (suc (suc (4 * i)))) = omega arith in rw q (simp suc-add)

-- the event of each
event_in_lem : (s o : List ℕ) (i : ℕ) → i < length o → event_at (records_in s o) i ≡ event_at s (get_or o i 0)
unfolding records_in flat_map event_at u16_at
event_in_lem s [] i h = absurd (not-suc-le-zero h)
event_in_lem s (e ∷ o) zero h = let q : 4 * e + 3 ≡ 4 * e + 2 + 1 = omega arith in rw q
event_in_lem s (e ∷ o) (suc i) h = event_behind _ _ _ _ (records_in s o) i ∙ event_in_lem s o i (le_of_suc-le-suc h)

module _ (s o : List ℕ) (within : Within (length (events_of s)) o) where
  -- the events are those of the numbers, in their order
  pub events_in : events_of (records_in s o) ≡ map (event_in (events_of s)) o
  unfolding events_of
  events_in =
      let n = in_length s o in
      let k = length-map o (event_in (events_of s)) in
      let m = events_length (records_in s o) in
      let own = events_length s in
      ext_get_or no_event (events_of (records_in s o)) (map (event_in (events_of s)) o) (omega arith)
      (λ i h.
      let l : i < length o = omega arith in
      let inside = within i l in
      list_of_at (event_at (records_in s o)) no_event (length (records_in s o) / 4) i (omega arith)
      ∙ event_in_lem s o i l
      ∙ sym (at_map (event_in (events_of s)) i o 0 no_event l ∙ list_of_at (event_at s) no_event (length s / 4) (get_or o i 0) (omega arith)))

  -- with these counts and level bytes they are the recording of all the records, in this order
  pub recording_in : (c : Counts) (b : List ℕ) → recording_by (records_in s o) c b ≡ in_order (recording_by s c b) o
  recording_in c b = ap (λ (l : List Event). record { counts = c; levels = levels_by c b; events = l }) events_in

  module _ (c : Counts) (b p : List ℕ) where
    -- they are refused exactly as its rules refuse it
    pub check_in : records_check (records_in s o) c b p
        ≡ unless (known_edition c) Refusal.Edition λ _.
        unless (in_range c (length o)) Refusal.Count λ _.
        unless (posts_up p) Refusal.Count λ _.
        unless (levels_fit c b p) Refusal.Starts λ _.
        let E = in_order (recording_by s c (b ++ p)) o in first_fault E (size E)
    check_in =
        let n = in_length s o in
        let whole : eqb (length (records_in s o) % 4) 0 ≡ true = eq-eqb (length (records_in s o) % 4) 0 (omega arith) in
        records_checks (records_in s o) c b p ∙ rw (whole, in_count s o, events_in)

    -- so the file of them is accepted where they are, and holds that recording
    pub accepted_in : known_edition c ≡ true → in_range c (length o) ≡ true → posts_up p ≡ true → levels_fit c b p ≡ true
        → Accepted (in_order (recording_by s c (b ++ p)) o)
        → (reading_of (file_in s o c (b ++ p)) ≡ Ok (record { start = 0; records = length o; counts = c }))
        × (recording_of (file_in s o c (b ++ p)) ≡ in_order (recording_by s c (b ++ p)) o)
    unfolding Accepted
    accepted_in edition range up fit acc =
        let (accepted, _, _, _, holds) = written_accepted (records_in s o) c b p (check_in ∙ rw (edition, range, up, fit) acc) in
        (accepted ∙ ap (λ (k : ℕ). Ok (record { start = 0; records = k; counts = c })) (in_count s o), holds ∙ recording_in c (b ++ p))
