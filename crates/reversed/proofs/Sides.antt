-- The events of one side of an event, put one after another, and the order of both sides.
-- Assumes nothing.
use Prim.Native.Nat.{ℕ, ◌+◌, ◌<◌}
use mathlib.Core.Path.{◌≡◌, refl, sym, ap, ◌∙◌}
use mathlib.Core.Bool.{Bool, true, false}
use mathlib.Core.List.{List, [], ◌∷◌, ◌++◌, append_assoc}
use lib.ListN.{length, get_or, length-append}
use Rattle.model.specs.Numbers.{picked}
use Rattle.model.specs.declared.Counts.{Counts}
use Rattle.model.specs.declared.Event.{Event}
use Rattle.model.specs.File.{events_of}
use Rattle.model.specs.Vectors.{Vectors, at_or_before}
use Rattle.model.specs.Reversed.{bring_forward}
use Rattle.model.proofs.Place.{length_once, element}
use Rattle.model.proofs.Picked.{parted_once}
use Rattle.passes.proofs.Waits.{picked_hit, picked_miss}
use Rattle.passes.specs.Lent.{vectors_in}
use Rattle.reversed.specs.Lent.{side_of}

-- an event that passes is put behind those before it, and another is not
module _ (p : ℕ → Bool) (a : ℕ) (old out : List ℕ) (q : out ≡ old ++ picked p a) where
  pub put_hit : p a ≡ true → out ++ a ∷ [] ≡ old ++ picked p (a + 1)
  put_hit t = rw (picked_hit p a t, q, append_assoc)

  pub put_miss : p a ≡ false → out ≡ old ++ picked p (a + 1)
  put_miss t = rw (picked_miss p a t, q)

-- ---- both sides

module _ (l : List Event) (X : Vectors) (x : ℕ) where
  -- each event stands there once
  pub forward_length : length (bring_forward l X x) ≡ length l
  unfolding bring_forward
  forward_length = length_once (length l) _ (parted_once (λ a. at_or_before l X a x) (length l))

  pub forward_below : (i : ℕ) → i < length (bring_forward l X x) → get_or (bring_forward l X x) i 0 < length l
  unfolding bring_forward
  forward_below i h = (element (length l) _ (parted_once (λ a. at_or_before l X a x) (length l)) i h).0

module _ (s : List ℕ) (c : Counts) (v : List ℕ) (x : ℕ) where
  abbrev first_side : List ℕ
  first_side = side_of s c v x true

  abbrev second_side : List ℕ
  second_side = side_of s c v x false

  abbrev forward : List ℕ
  forward = bring_forward (events_of s) (vectors_in s c v) x

  -- the one, and then the other
  pub both_sides : forward ≡ first_side ++ second_side
  unfolding bring_forward
  both_sides = refl

  -- there is room for the others behind the first
  pub side_room : length first_side + length second_side ≡ length (events_of s)
  side_room = sym (length-append first_side second_side) ∙ ap length (sym both_sides) ∙ forward_length (events_of s) (vectors_in s c v) x
