-- What is left of a task's records in two recordings, as they are gone along side by side. Assumes nothing.
use mathlib.Core.Path.{◌≡◌}
use Rattle.std.specs.Prelude.{Ok, Err}
use mathlib.Core.Bool.{true, false}
use mathlib.Core.List.{List, [], ◌∷◌, map}
use Prim.Native.Nat.{ℕ, suc, ◌+◌, ◌≤◌, ◌<◌}
use native.Mathlib.Numerals.{add-one}
use native.Mathlib.Omega.{arith}
use lib.ListN.{length}
use Rattle.std.specs.List.{All}
use Rattle.std.proofs.lemmas.List.Elements.{All-from_get_or}
use Rattle.model.specs.Recording.{event_in, of_task}
use Rattle.model.specs.declared.Event.{Event}
use Rattle.model.specs.declared.Refusal.{Refusal}
use Rattle.model.specs.Refusals.{Check}
use Rattle.model.specs.Pairs.{own_events}
use Rattle.model.specs.Together.{same_record, records_alike}
use Rattle.model.proofs.Picked.{picked_below, picked_few}

-- the events x of the one and y of the other, from position p on
module _ (f g : ℕ → Event) (t p : ℕ) (x y : List ℕ) where
  abbrev told : Check
  told = records_alike t p (map f x) (map g y)

  pub both_end : x ≡ [] → y ≡ [] → Ok tt ≡ told
  unfolding records_alike
  both_end q r = rw (q, r)

  pub first_ends : x ≡ [] → (b : ℕ) (y' : List ℕ) → y ≡ b ∷ y' → Err (Refusal.Differ t p) ≡ told
  unfolding records_alike
  first_ends q b y' r = rw (q, r)

  module _ (a : ℕ) (x' : List ℕ) (q : x ≡ a ∷ x') where
    pub second_ends : y ≡ [] → Err (Refusal.Differ t p) ≡ told
    unfolding records_alike
    second_ends r = rw (q, r)

    module _ (b : ℕ) (y' : List ℕ) (r : y ≡ b ∷ y') where
      pub differ : same_record (f a) (g b) ≡ false → Err (Refusal.Differ t p) ≡ told
      unfolding records_alike
      differ s = rw (q, r, s)

      pub same_here : same_record (f a) (g b) ≡ true → told ≡ records_alike t (p + 1) (map f x') (map g y')
      unfolding records_alike
      same_here s = rw (q, r, s, add-one p)

-- each event of a task is one
pub own_inside : (l : List Event) (t : ℕ) → All (λ e. e < length l) (own_events l t)
own_inside l t = All-from_get_or (λ e. e < length l) (own_events l t) 0 (picked_below (λ e. of_task t (event_in l e)) (length l))

pub own_few : (l : List Event) (t : ℕ) → length (own_events l t) ≤ length l
own_few l t = picked_few (λ e. of_task t (event_in l e)) (length l)

-- what holds of each number that is left holds of the first and of the others
pub first_and_others : (P : ℕ → Type 0) (x : List ℕ) (a : ℕ) (x' : List ℕ) → x ≡ a ∷ x' → All P x → P a × All P x'
first_and_others P x a x' q h =
    let all = rw q at h in
    (all 0 a (omega arith), λ k d l. all (suc k) d (omega arith))
