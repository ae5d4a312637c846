-- What lent vectors order. Assumes nothing.
use Prim.Native.Nat.{ℕ}
use mathlib.Core.Path.{◌≡◌, ◌∙◌}
use mathlib.Core.Bool.{Bool, false, not, ◌&&◌}
use mathlib.Core.List.{List}
use Rattle.model.specs.declared.Event.{Event}
use Rattle.model.specs.Vectors.{Vectors, at_or_before, ordered, unordered}
use Rattle.model.proofs.Tests.{eq-eqb, ne_eqb}

module _ (l : List Event) (X : Vectors) (a b : ℕ) where
  pub ordered_self : a ≡ b → false ≡ ordered l X a b
  unfolding ordered
  ordered_self h = rw (eq-eqb a b h)

  pub ordered_other : (a ≡ b → ⊥) → {r : Bool} → r ≡ at_or_before l X a b → r ≡ ordered l X a b
  unfolding ordered
  ordered_other h q = q ∙ rw (ne_eqb a b h)

  pub unordered_by : (p q : Bool) → p ≡ ordered l X a b → q ≡ ordered l X b a → (not p && not q) ≡ unordered l X a b
  unfolding unordered
  unordered_by p q e f = rw (e, f)
