-- What is promised of two stretches that do not overlap (document 02, No. 9), of every file that reading accepts and of every budget:
-- the answer says exactly what all their events say, and a first or second holds in every admissible order and at every larger budget.
-- Assumes nothing.
use Rattle.std.specs.Prelude.{ℕ, ◌<◌, ◌≤◌, ◌≡◌, true, List, ◌↔◌, length, Some, Ok}
use Rattle.model.specs.declared.Event.{Event}
use Rattle.model.specs.declared.Trailer.{Trailer}
use Rattle.model.specs.Recording.{Recording}
use Rattle.model.specs.File.{recording_of}
use Rattle.model.specs.Reading.{reading_of}
use Rattle.model.specs.Orders.{Always}
use Rattle.model.specs.Vectors.{Vectors, ordered}
use Rattle.model.specs.Passes.{is_settled, safe_vectors}
use Rattle.model.specs.Together.{at_position}
use Rattle.stretches.specs.declared.Stretch.{Stretch}
use Rattle.stretches.specs.Stretches.{lead_number, within, before, lead_of, two_stretches}

-- the answer for r and s with this budget has the number n
abbrev pub Answers : Recording → Stretch → Stretch → ℕ → ℕ → Type 0
Answers E r s budget n = lead_number (lead_of E r s budget) ≡ n

-- this holds of every event of r with every event of s
abbrev pub OfAll : List Event → Stretch → Stretch → (ℕ → ℕ → Type 0) → Type 0
OfAll l r s P = (a b : ℕ) → a < length l → within l r a ≡ true → b < length l → within l s b ≡ true → P a b

-- every event of r is ordered before every event of s
abbrev pub AllOrdered : List Event → Vectors → Stretch → Stretch → Type 0
AllOrdered l X r s = OfAll l r s (λ a b. ordered l X a b ≡ true)

-- the last event of r and the first of s decide whether r is before s
abbrev pub ByEnds : List Event → Vectors → Stretch → Stretch → Type 0
ByEnds l X r s =
    (a : ℕ) × (b : ℕ) × (at_position l r.task r.last ≡ Some a) × (at_position l s.task s.first ≡ Some b)
    × (before l X r s ≡ ordered l X a b)

pub record StretchPromise (E : Recording) (r s : Stretch) (budget : ℕ) : Type 0 where
  -- 1 first: exactly where every event of r is ordered before every event of s
  pub first : Answers E r s budget 1 ↔ AllOrdered E.events (safe_vectors E budget) r s
  -- 2 second: exactly where it is so the other way round
  pub second : Answers E r s budget 2 ↔ AllOrdered E.events (safe_vectors E budget) s r
  -- 3 neither: exactly where it is so neither way
  pub neither : Answers E r s budget 3
      ↔ (¬ (AllOrdered E.events (safe_vectors E budget) r s) × ¬ (AllOrdered E.events (safe_vectors E budget) s r))
  -- first: every event of r comes before every event of s in every admissible order
  pub first_always : Answers E r s budget 1 → OfAll E.events r s (Always E)
  -- second: the other way round
  pub second_always : Answers E r s budget 2 → OfAll E.events s r (Always E)
  -- a larger budget changes no first and no second
  pub keeps_first : (larger : ℕ) → budget ≤ larger → Answers E r s budget 1 → Answers E r s larger 1
  pub keeps_second : (larger : ℕ) → budget ≤ larger → Answers E r s budget 2 → Answers E r s larger 2
  -- where one budget is settled, every larger one gives the same answer
  pub keeps_answer : is_settled E budget ≡ true → (larger : ℕ) → budget ≤ larger → lead_of E r s larger ≡ lead_of E r s budget
  -- either way two events decide
  pub first_ends : ByEnds E.events (safe_vectors E budget) r s
  pub second_ends : ByEnds E.events (safe_vectors E budget) s r

-- the statement, proved as `stretch_promise` in proofs/AllEvents.antt
abbrev pub StretchPromised : Type 0
StretchPromised =
    (f : List ℕ) (h : Trailer) → reading_of f ≡ Ok h
    → (r s : Stretch) → two_stretches (recording_of f) r s ≡ true → (budget : ℕ) → StretchPromise (recording_of f) r s budget
