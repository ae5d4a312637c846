-- Numbers counted and picked one after another, and where the slots of the chains lie. Assumes nothing.
use Prim.Native.Nat.{ℕ, zero, suc, ◌+◌, ◌≤◌, ◌<◌}
use mathlib.Core.Path.{◌≡◌, refl, sym, ap, ◌∙◌}
use mathlib.Core.Bool.{Bool, true, false}
use mathlib.Core.List.{List, [], ◌∷◌, ◌++◌, append-nil}
use native.Mathlib.Decide.{dec_le}
use native.Mathlib.Numerals.{add-one}
use native.Mathlib.Omega.{arith}
use lib.ListN.{length}
use Rattle.model.specs.Numbers.{bit, sum, tally, count, filter}
use Rattle.model.proofs.Counting.{count_append}
use Rattle.model.specs.Recording.{signal, wait, post}
use Rattle.model.proofs.Tests.{cases, bit_true, bit_false, lt-ltb}
use Rattle.events.specs.Chains.{slots, slot_of}
use Rattle.events.proofs.Laws.{tally_next}
use Rattle.passes.proofs.Waits.{filter-append}

-- what each number from m on leaves as it is
leap : {A : Type 0} (f : ℕ → A) (m b : ℕ) → m ≤ b → ((i : ℕ) → m ≤ i → i < b → f (i + 1) ≡ f i) → f b ≡ f m
leap f m zero h e = ap f (let z : zero ≡ m = omega arith in z)
leap f m (suc b) h e = elim (dec_le m b) [
  | yes l ↦ ap f (sym (add-one b)) ∙ e b l (omega arith) ∙ leap f m b l (λ i x y. e i x (omega arith))
  | no l ↦ ap f (let z : suc b ≡ m = omega arith in z)
]

-- none is counted at first
pub tally_start : (p : ℕ → Bool) → tally p 0 ≡ 0
unfolding sum
tally_start p = refl

-- numbers that fail are not counted
pub tally_skip : (p : ℕ → Bool) (m b : ℕ) → m ≤ b → ((i : ℕ) → m ≤ i → i < b → p i ≡ false) → tally p b ≡ tally p m
tally_skip p m b h e = leap (tally p) m b h (λ i x y. omega (arith, tally_next p i, ap bit (e i x y)))

-- ---- one more

module _ (p : ℕ → Bool) (l : List ℕ) (x : ℕ) where
  pub count_hit : p x ≡ true → count p (l ++ x ∷ []) ≡ count p l + 1
  unfolding count
  count_hit t = let b = bit_true t in omega (arith, count_append p l (x ∷ []))

  pub count_miss : p x ≡ false → count p (l ++ x ∷ []) ≡ count p l
  unfolding count
  count_miss t = let b = bit_false t in omega (arith, count_append p l (x ∷ []))

  pub filter_hit : p x ≡ true → filter p (l ++ x ∷ []) ≡ filter p l ++ x ∷ []
  unfolding filter
  filter_hit t = rw (filter-append p l (x ∷ []), t)

  pub filter_miss : p x ≡ false → filter p (l ++ x ∷ []) ≡ filter p l
  unfolding filter
  filter_miss t = rw (filter-append p l (x ∷ []), t) (append-nil (filter p l))

-- as many at most
pub filter_few : (p : ℕ → Bool) (l : List ℕ) → length (filter p l) ≤ length l
unfolding filter
filter_few p [] = omega arith
filter_few p (x ∷ l) = let h = filter_few p l in cases (p x) (λ t. rw t (omega arith)) (λ t. rw t (omega arith))

-- ---- slots

-- signals, waits and posts have slots
pub has_slots : (x : ℕ) → x < 64 → (slot_of signal x < slots) × (slot_of wait x < slots) × (slot_of post x < slots)
unfolding slot_of
has_slots x h = rw (lt-ltb x 64 h) (omega arith, omega arith, omega arith)
