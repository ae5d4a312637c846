-- Laws of the events that record bytes hold: how many they are, what each is, and how counts and searches over the first ones go on by one. Assumes nothing.
use mathlib.Core.Path.{◌≡◌, sym, ap, ◌∙◌}
use Rattle.std.specs.Prelude.{Option, Some, None}
use mathlib.Core.Bool.{Bool, true, false}
use mathlib.Core.List.{List}
use Prim.Native.Nat.{ℕ, ◌+◌, ◌*◌, ◌/◌, ◌≤◌, ◌<◌}
use native.Mathlib.Omega.{arith}
use native.Mathlib.Numerals.{add-one}
use lib.ListN.{length, get_or, take}
use lib.Seq.{length-take-le, get_or-take, ext_get_or}
use Rattle.model.specs.declared.Event.{Event}
use Rattle.model.specs.Numbers.{bit, sum, tally, last_of}
use Rattle.model.specs.Recording.{no_event, event_in}
use Rattle.model.specs.File.{u16_at, event_at, events_of}
use Rattle.model.specs.Passes.{last_event}
use Rattle.model.specs.LastEvent.{from_hit, records_read}
use Rattle.model.proofs.Lists.{list_of_at}
pub use Rattle.model.proofs.Files.{events_length}

-- ---- the events

pub event_at_lem : (s : List ℕ) (e : ℕ) → e < length s / 4 → event_in (events_of s) e ≡ event_at s e
unfolding events_of
event_at_lem s e h = list_of_at (event_at s) no_event (length s / 4) e h

pub task_at : (s : List ℕ) (e : ℕ) → e < length s / 4 → (event_in (events_of s) e).task ≡ get_or s (4 * e) 0
unfolding event_at
task_at s e h = rw (event_at_lem s e h)

-- a record whose bytes lie in the first n is the same there
event_take : (s : List ℕ) (n e : ℕ) → 4 * e + 3 < n → event_at (take n s) e ≡ event_at s e
unfolding event_at u16_at
event_take s n e h =
    rw (
      get_or-take n s (4 * e) 0 (omega arith),
      get_or-take n s (4 * e + 1) 0 (omega arith),
      get_or-take n s (4 * e + 2) 0 (omega arith),
      get_or-take n s (4 * e + 2 + 1) 0 (omega arith),
    )

-- the events of the first bytes are the first events
pub events_take : (s : List ℕ) (e : ℕ) → 4 * e ≤ length s → events_of (take (4 * e) s) ≡ take e (events_of s)
events_take s e h = ext_get_or no_event (events_of (take (4 * e) s)) (take e (events_of s)) (many ∙ sym few) at_each
  where
    bytes : length (take (4 * e) s) ≡ 4 * e
    bytes = length-take-le (4 * e) s h

    many : length (events_of (take (4 * e) s)) ≡ e
    many = events_length (take (4 * e) s) ∙ omega (arith, bytes)

    few : length (take e (events_of s)) ≡ e
    few = length-take-le e (events_of s) (omega (arith, events_length s))

    at_each : (i : ℕ) → i < length (events_of (take (4 * e) s)) → event_in (events_of (take (4 * e) s)) i ≡ event_in (take e (events_of s)) i
    at_each i k =
        let l : i < e = omega (arith, many) in
        event_at_lem (take (4 * e) s) i (omega (arith, bytes))
        ∙ event_take s (4 * e) i (omega arith)
        ∙ sym (event_at_lem s i (omega arith))
        ∙ sym (get_or-take e (events_of s) i no_event l)

-- ---- counts

pub tally_next : (p : ℕ → Bool) (n : ℕ) → tally p (n + 1) ≡ tally p n + bit (p n)
unfolding sum
tally_next p n = rw (add-one n)

-- ---- the last number below n that passes a test

pub last_none : (p : ℕ → Bool) (n : ℕ) → n ≡ 0 → None ≡ last_of p n
unfolding last_of
last_none p n e = rw e

module _ (p : ℕ → Bool) (n e : ℕ) (b : Bool) (up : n ≡ e + 1) (t : b ≡ p e) where
  pub last_here : b ≡ true → Some e ≡ last_of p n
  unfolding last_of
  last_here h = let k : p e ≡ true = sym t ∙ h in rw (up, add-one e, k, last_of)

  pub last_lower : b ≡ false → last_of p e ≡ last_of p n
  unfolding last_of
  last_lower h = let k : p e ≡ false = sym t ∙ h in rw (up, add-one e, k, last_of)

-- how many records are read, where this was found
pub read_to : (l : List Event) (t : ℕ) (f : Option ℕ) → f ≡ last_event l t → records_read l t ≡ from_hit (length l) f
unfolding records_read
read_to l t f q = ap (from_hit (length l)) (sym q)
