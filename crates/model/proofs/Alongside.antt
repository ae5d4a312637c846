-- Two lists alongside: of the same length, with a relation between what stands at the same place in both; and lists made of such
-- lists part by part.
-- Assumes nothing.
use Prim.Native.Nat.{ℕ, zero, suc, ◌<◌}
use mathlib.Core.Path.{◌≡◌, refl, sym, ap₂, subst}
use mathlib.Core.Bool.{Bool, true, false, cond}
use mathlib.Core.List.{List, [], ◌∷◌, ◌++◌, map}
pub use mathlib.Core.List.Forall₂.{cons as beside}
pub use mathlib.Core.List.Forall₂.{nil as ends}
pub use mathlib.Core.List.{Forall₂ as Alongside}
use native.Mathlib.Nat.{not-suc-le-zero}
use native.Mathlib.Omega.{arith}
use lib.ListN.{length, get_or}
use Rattle.model.specs.Numbers.{each, flat_map, flat_map_tails}
use Rattle.model.proofs.Tests.{clash}

module _ {A B : Type 0} {R : A → B → Type 0} where
  pub alongside_append : {l r : List A} {m s : List B} → Alongside R l m → Alongside R r s → Alongside R (l ++ r) (m ++ s)
  alongside_append ends k = k
  alongside_append {r = r} {s = s} (beside {l₁ = l} {l₂ = m} h t) k = beside h (alongside_append {l = l} {r = r} {m = m} {s = s} t k)

  each_beside : (f : ℕ → List A) (g : ℕ → List B) → ((i : ℕ) → Alongside R (f i) (g i)) → (n : ℕ) → Alongside R (each f n) (each g n)
  unfolding each
  each_beside f g h zero = ends
  each_beside f g h (suc n) = alongside_append (each_beside f g h n) (h n)

  pub alongside_each : (f : ℕ → List A) (g : ℕ → List B) → ((i : ℕ) → Alongside R (f i) (g i)) → (m n : ℕ) → m ≡ n
      → Alongside R (each f m) (each g n)
  alongside_each f g h m n q = subst (λ (k : ℕ). Alongside R (each f m) (each g k)) q (each_beside f g h m)

  pub alongside_map : {C : Type 0} (f : A → C) (g : B → C) → ((x : A) (y : B) → R x y → f x ≡ g y)
      → {l : List A} {m : List B} → Alongside R l m → map f l ≡ map g m
  alongside_map f g h ends = refl
  alongside_map {C = C} f g h (beside {a = x} {b = y} {l₁ = l} {l₂ = m} r t) =
      ap₂ (λ (c : C) (cs : List C). c ∷ cs) (h x y r) (alongside_map f g h {l = l} {m = m} t)

-- of numbers, by place: both ways
module _ {R : ℕ → ℕ → Type 0} where
  pub alongside_at : {l m : List ℕ} → Alongside R l m → (i : ℕ) → i < length l → R (get_or l i 0) (get_or m i 0)
  alongside_at ends i h = absurd (not-suc-le-zero h)
  alongside_at (beside r t) zero h = r
  alongside_at (beside {l₁ = l} {l₂ = m} r t) (suc i) h = alongside_at {l = l} {m = m} t i (omega arith)

  pub alongside_by : (l m : List ℕ) → length l ≡ length m → ((i : ℕ) → i < length l → R (get_or l i 0) (get_or m i 0)) → Alongside R l m
  alongside_by [] [] n h = ends
  alongside_by [] (y ∷ m) n h = absurd (omega arith)
  alongside_by (x ∷ l) [] n h = absurd (omega arith)
  alongside_by (x ∷ l) (y ∷ m) n h = beside (h 0 (omega arith)) (alongside_by l m (omega arith) (λ i k. h (suc i) (omega arith)))

-- parts
module _ {A B C D : Type 0} {R : A → B → Type 0} {S : C → D → Type 0} where
  pub alongside_flat : (f : A → List C) (g : B → List D) → ((x : A) (y : B) → R x y → Alongside S (f x) (g y))
      → {l : List A} {m : List B} → Alongside R l m → Alongside S (flat_map f l) (flat_map g m)
  unfolding flat_map
  alongside_flat f g h ends = ends
  alongside_flat f g h (beside {a = x} {b = y} {l₁ = l} {l₂ = m} r t) = alongside_append (h x y r) (alongside_flat f g h {l = l} {m = m} t)

  pub alongside_tails : (f : A → List A → List C) (g : B → List B → List D)
      → ((x : A) (y : B) (l : List A) (m : List B) → R x y → Alongside R l m → Alongside S (f x l) (g y m))
      → {l : List A} {m : List B} → Alongside R l m → Alongside S (flat_map_tails f l) (flat_map_tails g m)
  unfolding flat_map_tails
  alongside_tails f g h ends = ends
  alongside_tails f g h (beside {a = x} {b = y} {l₁ = l} {l₂ = m} r t) =
      alongside_append (h x y l m r t) (alongside_tails f g h {l = l} {m = m} t)

-- parts that are there only where a test passes
pub alongside_where : {A B : Type 0} {R : A → B → Type 0} {l : List A} {m : List B} (b c : Bool) → b ≡ c → Alongside R l m
    → Alongside R (cond b l []) (cond c m [])
alongside_where true true q h = h
alongside_where true false q h = clash refl q
alongside_where false true q h = clash refl (sym q)
alongside_where false false q h = ends
