-- Rows of one length in a flat list: where a number of a row lies, and that rows and list give each other.
-- Assumes nothing.
use Prim.Native.Nat.{ℕ, zero, suc, ◌+◌, ◌*◌, ◌≤◌, ◌<◌}
use mathlib.Core.Path.{◌≡◌, refl, sym, ap, ap₂, ◌∙◌}
use mathlib.Core.Bool.{Bool, cond, ◌&&◌, and_assoc}
use mathlib.Core.List.{List, [], ◌∷◌, ◌++◌, map}
use native.Mathlib.Nat.{not-suc-le-zero, le_of_suc-le-suc, zero-mul, suc-mul, mul-le-mul_right, zero-add}
use native.Mathlib.Omega.{arith}
use lib.Dec.{eqb}
use lib.ListN.{length, get_or, take, drop, length-append, length-drop, length-map, take-append-drop, get_or-eq_default}
use lib.Seq.{length-take-le, take_at, drop_at, get_or-take, get_or-drop, ext_get_or}
use Rattle.model.specs.Vectors.{Vectors, number, flat}
use Rattle.model.specs.Passes.{same_row, same}
use Rattle.model.proofs.Tests.{eq-eqb, ne_eqb}
use Rattle.model.proofs.Lists.{list_of_at, list_of-length}
use Rattle.model.proofs.Climb.{Shaped}
use Rattle.vectors.specs.Rows.{chunks, column, own_row}

-- one row is past another
pub next_row : (a b m : ℕ) → a < b → a * m + m ≤ b * m
next_row a b m h = rw (← suc-mul a m) (mul-le-mul_right m h)

-- vectors of one shape with the same numbers are the same
pub same_numbers : {n m : ℕ} {X Y : Vectors} → Shaped n m X → Shaped n m Y → ((e t : ℕ) → e < n → t < m → number X e t ≡ number Y e t) → X ≡ Y
same_numbers {n} {m} {X} {Y} s r h =
    let x = s.rows in
    let y = r.rows in
    ext_get_or [] X Y (x ∙ sym y) λ e k.
    let l : e < n = omega arith in
    let u = s.row e l in
    let w = r.row e l in
    ext_get_or 0 (get_or X e []) (get_or Y e []) (u ∙ sym w) (λ t j. h e t l (omega arith))

shaped_tail : {n m : ℕ} {r : List ℕ} {X : Vectors} → Shaped (suc n) m (r ∷ X) → Shaped n m X
shaped_tail s = record { rows = omega (arith, s.rows); row = λ e h. s.row (suc e) (omega arith) }

pub flat_length : (n m : ℕ) (X : Vectors) → Shaped n m X → length (flat X) ≡ n * m
unfolding flat
flat_length zero m [] s = sym (zero-mul m)
flat_length zero m (r ∷ X) s = absurd (omega (arith, s.rows))
flat_length (suc n) m [] s = absurd (omega (arith, s.rows))
flat_length (suc n) m (r ∷ X) s =
    let ih = flat_length n m X (shaped_tail s) in
    let w : length r ≡ m = s.row 0 (omega arith) in
    omega (arith, length-append r (flat X), suc-mul n m)

pub chunks_flat : (n m : ℕ) (X : Vectors) → Shaped n m X → chunks n m (flat X) ≡ X
unfolding chunks flat
chunks_flat zero m [] s = refl
chunks_flat zero m (r ∷ X) s = absurd (omega (arith, s.rows))
chunks_flat (suc n) m [] s = absurd (omega (arith, s.rows))
chunks_flat (suc n) m (r ∷ X) s =
    let w : length r ≡ m = s.row 0 (omega arith) in
    rw (take_at r (flat X) m w, drop_at r (flat X) m w) (ap (λ (Y : Vectors). r ∷ Y) (chunks_flat n m X (shaped_tail s)))

-- the first row is there, and behind it n others
room : (n m : ℕ) (l : List ℕ) → length l ≡ suc n * m → (m ≤ length l) × (length (drop m l) ≡ n * m)
room n m l h = let e : suc n * m ≡ n * m + m = suc-mul n m in (omega arith, omega (arith, length-drop m l))

no_number : (l : List ℕ) → length l ≡ 0 → l ≡ []
no_number [] h = refl
no_number (x ∷ l) h = absurd (omega arith)

pub flat_chunks : (n m : ℕ) (l : List ℕ) → length l ≡ n * m → flat (chunks n m l) ≡ l
unfolding chunks flat
flat_chunks zero m l h = sym (no_number l (h ∙ zero-mul m))
flat_chunks (suc n) m l h = let r = room n m l h in rw (flat_chunks n m (drop m l) r.1) (take-append-drop m l)

chunks_length : (n m : ℕ) (l : List ℕ) → length (chunks n m l) ≡ n
unfolding chunks
chunks_length zero m l = refl
chunks_length (suc n) m l = ap suc (chunks_length n m (drop m l))

chunks_wide : (n m : ℕ) (l : List ℕ) → length l ≡ n * m → (e : ℕ) → e < n → length (get_or (chunks n m l) e []) ≡ m
unfolding chunks
chunks_wide zero m l h e k = absurd (omega arith)
chunks_wide (suc n) m l h zero k = length-take-le m l (room n m l h).0
chunks_wide (suc n) m l h (suc e) k = chunks_wide n m (drop m l) (room n m l h).1 e (le_of_suc-le-suc k)

pub chunks_shaped : (n m : ℕ) (l : List ℕ) → length l ≡ n * m → Shaped n m (chunks n m l)
chunks_shaped n m l h = record { rows = chunks_length n m l; row = chunks_wide n m l h }

-- where the number for task t of event s lies; past the last event both are 0
pub number_chunks : (n m : ℕ) (l : List ℕ) (s t : ℕ) → length l ≡ n * m → t < m → number (chunks n m l) s t ≡ get_or l (s * m + t) 0
unfolding chunks
number_chunks zero m l s t h k = sym (get_or-eq_default l 0 (let z = zero-mul m in omega arith))
number_chunks (suc n) m l zero t h k = rw (zero-mul m, zero-add t) (get_or-take m l t 0 k)
number_chunks (suc n) m l (suc s) t h k =
    let e : suc s * m + t ≡ m + (s * m + t) = omega (arith, suc-mul s m) in
    number_chunks n m (drop m l) s t (room n m l h).1 k ∙ get_or-drop m l (s * m + t) 0 ∙ ap (λ (i : ℕ). get_or l i 0) (sym e)

pub map_same : (f g : ℕ → ℕ) (l : List ℕ) → ((x : ℕ) → f x ≡ g x) → map f l ≡ map g l
map_same f g [] h = refl
map_same f g (x ∷ l) h = ap₂ ◌∷◌ (h x) (map_same f g l h)

-- the numbers for task t of the events listed
pub column_chunks : (n m : ℕ) (l : List ℕ) (t : ℕ) (es : List ℕ) → length l ≡ n * m → t < m → column m l t es ≡ map (λ s. number (chunks n m l) s t) es
unfolding column
column_chunks n m l t es h k = map_same _ _ es (λ s. sym (number_chunks n m l s t h k))

-- ---- whether two lists are the same, by their rows

same_row-append : (a b c d : List ℕ) → length a ≡ length b → same_row (a ++ c) (b ++ d) ≡ (same_row a b && same_row c d)
same_row-append [] [] c d h = refl
same_row-append [] (y ∷ b) c d h = absurd (omega arith)
same_row-append (x ∷ a) [] c d h = absurd (omega arith)
same_row-append (x ∷ a) (y ∷ b) c d h = rw (same_row-append a b c d (omega arith)) (sym (and_assoc (eqb x y) (same_row a b) (same_row c d)))

pub same_chunks : (n m : ℕ) (l k : List ℕ) → length l ≡ n * m → length k ≡ n * m → same (chunks n m l) (chunks n m k) ≡ same_row l k
unfolding chunks
same_chunks zero m l k h j = rw (no_number l (h ∙ zero-mul m), no_number k (j ∙ zero-mul m))
same_chunks (suc n) m l k h j =
    let r = room n m l h in
    let s = room n m k j in
    ap (λ (b : Bool). same_row (take m l) (take m k) && b) (same_chunks n m (drop m l) (drop m k) r.1 s.1)
    ∙ sym (same_row-append (take m l) (take m k) (drop m l) (drop m k) (length-take-le m l r.0 ∙ sym (length-take-le m k s.0)))
    ∙ ap₂ same_row (take-append-drop m l) (take-append-drop m k)

-- ---- a column and a starting row, number by number

pub column_length : (m : ℕ) (l : List ℕ) (t : ℕ) (es : List ℕ) → length (column m l t es) ≡ length es
unfolding column
column_length m l t es = length-map es (λ (e : ℕ). get_or l (e * m + t) 0)

pub column_at : (m : ℕ) (l : List ℕ) (t : ℕ) (es : List ℕ) (i : ℕ) → i < length es → get_or (column m l t es) i 0 ≡ get_or l (get_or es i 0 * m + t) 0
unfolding column
column_at m l t [] i h = absurd (not-suc-le-zero h)
column_at m l t (e ∷ es) zero h = refl
column_at m l t (e ∷ es) (suc i) h = column_at m l t es i (le_of_suc-le-suc h)

module _ (m own x : ℕ) where
  pub own_length : length (own_row m own x) ≡ m
  unfolding own_row
  own_length = list_of-length (λ t. cond (eqb t own) x 0) 0 m

  own_at : (t : ℕ) → t < m → get_or (own_row m own x) t 0 ≡ cond (eqb t own) x 0
  unfolding own_row
  own_at t h = list_of_at (λ t. cond (eqb t own) x 0) 0 m t h

  pub own_same : (t : ℕ) → t < m → t ≡ own → get_or (own_row m own x) t 0 ≡ x
  own_same t h q = own_at t h ∙ rw (eq-eqb t own q)

  pub own_other : (t : ℕ) → t < m → (t ≡ own → ⊥) → get_or (own_row m own x) t 0 ≡ 0
  own_other t h q = own_at t h ∙ rw (ne_eqb t own q)
