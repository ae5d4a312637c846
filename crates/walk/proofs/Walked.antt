-- A whole walk yields each record once, in order, then the end. Assumes nothing.
use mathlib.Core.Path.{◌≡◌, refl}
use Rattle.std.specs.Prelude.{Some, None}
use mathlib.Core.List.{List}
use Prim.Native.Nat.{ℕ, zero, suc, ◌+◌, ◌/◌, ◌<◌, ◌≤◌}
use native.Mathlib.Numerals.{add-one}
use native.Mathlib.Omega.{arith}
use borrow.Author.Tests.{lt-ltb, le-ltb}
use lib.ListN.{length}
use Rattle.model.specs.File.{event_at}
use Rattle.model.specs.Walking.{step_at}
use Rattle.events.proofs.Laws.{event_at_lem}
use Rattle.recording.proofs.Files.{no_records}
use Rattle.walk.specs.Walked.{after, Walked}

module _ (s : List ℕ) where
  pub step_in : (n : ℕ) → n < length s / 4 → step_at s n ≡ record { item = Some (event_at s n); next = n + 1 }
  unfolding step_at
  step_in n h = rw (lt-ltb n (length s / 4) h)

  pub ends : (n : ℕ) → length s / 4 ≤ n → step_at s n ≡ record { item = None; next = n }
  unfolding step_at
  ends n h = rw (le-ltb n (length s / 4) h)

  after_suc : (k : ℕ) → after s (suc k) ≡ (step_at s (after s k)).next
  unfolding after
  after_suc k = refl

  goes_on : (k : ℕ) → k ≤ length s / 4 → after s k ≡ k
  unfolding after
  goes_on zero h = refl
  goes_on (suc k) h = rw (after_suc k, goes_on k (omega arith), step_in k h) (add-one k)

pub walked : Walked
walked =
    record {
      yields = λ s k h. rw (goes_on s k (omega arith), step_in s k h, event_at_lem s k h);
      goes_on = goes_on;
      ends = ends;
      refused = λ f r q n. rw (← no_records f r q) (ends _ n (omega arith));
    }
