-- Laws of the record check that the proofs cite: what a test says, how the first fault goes on by one record, and the look at post counts. Assumes nothing.
use mathlib.Core.Path.{◌≡◌, refl, sym, ◌∙◌}
use Rattle.std.specs.Prelude.{Ok, Err}
use mathlib.Core.Bool.{Bool, true, false, not}
use Rattle.std.specs.List.{list_any}
use mathlib.Core.List.{List, [], ◌∷◌, ◌++◌}
use Prim.Native.Nat.{ℕ, suc, ◌+◌, ◌*◌, ◌≤◌, ◌<◌}
use native.Mathlib.Nat.{zero-add}
use native.Mathlib.Numerals.{add-one}
use native.Mathlib.Omega.{arith}
use lib.Dec.{eqb}
use lib.ListN.{length, take}
use lib.Seq.{length-take-le, take-suc}
use Rattle.model.specs.declared.Event.{Event}
use Rattle.model.specs.declared.Refusal.{Refusal}
use Rattle.model.specs.Refusals.{Check, and_then}
use Rattle.model.specs.Numbers.{count}
use Rattle.model.specs.Recording.{Recording, no_event, event, record_check, first_fault, event_in}
use Rattle.model.specs.File.{events_of}
use Rattle.model.specs.Reading.{posts_up}
use Rattle.model.proofs.Tests.{cases, tests}
use Rattle.model.proofs.Checks.{none_yet, the_first}
use Rattle.model.proofs.Files.{events_length}

-- a test of the code, and what it says of the definition
pub passed : {t d : Bool} → t ≡ d → t ≡ true → d ≡ true
passed e h = sym e ∙ h

pub failed : {t d : Bool} → t ≡ d → t ≡ false → d ≡ false
failed e h = sym e ∙ h

-- of n whole records, n events come before record n
pub before_length : (s : List ℕ) (n : ℕ) → 4 * n ≤ length s → length (take n (events_of s)) ≡ n
before_length s n h = let l = events_length s in length-take-le n (events_of s) (omega arith)

-- and with the next one, v, one more
pub before_next : (s : List ℕ) (n : ℕ) (v : Event) → 4 * n + 3 < length s → v ≡ event_in (events_of s) n → take (n + 1) (events_of s) ≡ take n (events_of s) ++ v ∷ []
before_next s n v h q = let l = events_length s in rw (add-one n, q) (take-suc (events_of s) n no_event (omega arith))

-- the check r of record i, where none before it is faulty
module _ (E : Recording) (i : ℕ) (v : Event) (r : Check) (p : (Ok tt) ≡ first_fault E i) (q : v ≡ event E i) (s : r ≡ record_check E.counts E.levels (take i E.events) v) where
  abbrev step : ℕ → Check
  step n = record_check E.counts E.levels (take n E.events) (event E n)

  up : (n : ℕ) → first_fault E (suc n) ≡ and_then (first_fault E n) λ _. step n
  unfolding first_fault
  up n = refl

  here : r ≡ step i
  here = rw (← q) s

  pub fault_none : r ≡ Ok tt → Ok tt ≡ first_fault E (i + 1)
  fault_none = none_yet (first_fault E) step up i r p here

  pub fault_first : (x : Refusal) → r ≡ Err x → (n : ℕ) → i < n → Err x ≡ first_fault E n
  fault_first = the_first (first_fault E) step up i r p here

-- no post count is 0
pub none_zero : (p : List ℕ) → not (list_any (λ x. eqb x 0) p) ≡ posts_up p
unfolding posts_up count
none_zero [] = refl
none_zero (x ∷ p) =
    cases (eqb x 0)
    (λ t. let z : eqb 0 x ≡ true = omega tests in rw (t, z) (sym (omega tests)))
    (λ t. let z : eqb 0 x ≡ false = omega tests in rw (t, z, zero-add, none_zero p) refl)
