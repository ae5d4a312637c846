-- A row of a flat list raised number by number, and the same row among the vectors.
-- Assumes nothing.
use Prim.Native.Nat.{ℕ, zero, suc, ◌+◌, ◌*◌, ◌≤◌, ◌<◌, max}
use mathlib.Core.Path.{◌≡◌, refl, sym, ap, ap₂, ◌∙◌}
use mathlib.Core.Logic.{◌⊎◌, inl, inr, ⊎_elim}
use mathlib.Core.List.{List}
use native.Mathlib.Nat.{not-suc-le-zero, max-eq_left}
use native.Mathlib.Numerals.{add-one}
use native.Mathlib.Omega.{arith}
use lib.Dec.{eqb}
use lib.ListN.{length, get_or, set, length-set}
use lib.Seq.{get_or-set_same, get_or-set_other, set-get_or}
use Rattle.model.specs.Vectors.{Vectors, number}
use Rattle.model.proofs.Tests.{cases, compared, last_or_lower, eqb-true, eqb-false}
use Rattle.model.proofs.Lists.{list_of_at, list_of-length, number_set_same, number_set_other}
use Rattle.model.proofs.Climb.{Shaped, set_shaped}
use Rattle.vectors.specs.Rows.{chunks, column, raised_at, raised_to}
use Rattle.vectors.proofs.Chunks.{next_row, same_numbers, chunks_shaped, number_chunks, map_same}

-- ---- in the flat list

pub raised_length : (l : List ℕ) (a : ℕ) (f : ℕ → ℕ) (n : ℕ) → length (raised_at l a f n) ≡ length l
unfolding raised_at
raised_length l a f zero = refl
raised_length l a f (suc n) = length-set (raised_at l a f n) (a + n) _ ∙ raised_length l a f n

-- outside the run nothing changes
pub raised_outside : (l : List ℕ) (a : ℕ) (f : ℕ → ℕ) (n i : ℕ) → (i < a) ⊎ (a + n ≤ i) → get_or (raised_at l a f n) i 0 ≡ get_or l i 0
unfolding raised_at
raised_outside l a f zero i o = refl
raised_outside l a f (suc n) i o =
    get_or-set_other (raised_at l a f n) (a + n) i _ 0 (λ e. ⊎_elim (λ w. omega arith) (λ w. omega arith) o)
    ∙ raised_outside l a f n i (⊎_elim (λ w. inl w) (λ w. inr (omega arith)) o)

pub raised_inside : (l : List ℕ) (a : ℕ) (f : ℕ → ℕ) (n t : ℕ) → a + n ≤ length l → t < n → get_or (raised_at l a f n) (a + t) 0 ≡ max (get_or l (a + t) 0) (f t)
unfolding raised_at
raised_inside l a f zero t h k = absurd (not-suc-le-zero k)
raised_inside l a f (suc n) t h k =
    last_or_lower k
    (λ e. rw e (get_or-set_same (raised_at l a f n) (a + n) _ 0 (omega (arith, raised_length l a f n))))
    (λ j. get_or-set_other (raised_at l a f n) (a + n) (a + t) _ 0 (λ e. omega arith) ∙ raised_inside l a f n t (omega arith) j)

-- what each turn reads is as it was: number t of any row, while the first t numbers of row e are raised
pub column_kept : (l : List ℕ) (f : ℕ → ℕ) (m e s t : ℕ) → t < m → get_or (raised_at l (e * m) f t) (s * m + t) 0 ≡ get_or l (s * m + t) 0
column_kept l f m e s t h =
    raised_outside l (e * m) f t (s * m + t)
    (compared s e (λ k. inl (omega (arith, next_row s e m k))) (λ q. inr (rw q (omega arith))) (λ k. inr (omega (arith, next_row e s m k))))

-- raising to numbers that are not above changes nothing
pub raised_none : (l : List ℕ) (a : ℕ) (f : ℕ → ℕ) (n : ℕ) → ((t : ℕ) → t < n → f t ≤ get_or l (a + t) 0) → raised_at l a f n ≡ l
unfolding raised_at
raised_none l a f zero h = refl
raised_none l a f (suc n) h =
    let q : max (get_or l (a + n) 0) (f n) ≡ get_or l (a + n) 0 = max-eq_left (h n (omega arith)) in
    ap₂ (λ (u : List ℕ) (x : ℕ). set u (a + n) x) (raised_none l a f n (λ t k. h t (omega arith))) q ∙ set-get_or l (a + n) 0

-- ---- among the vectors

module _ (m : ℕ) (X : Vectors) (e : ℕ) (f : ℕ → ℕ) where
  pub raised_to_same : (t : ℕ) → e < length X → t < m → number (raised_to m X e f) e t ≡ max (number X e t) (f t)
  unfolding raised_to
  raised_to_same t h k = number_set_same X e t _ h ∙ list_of_at (λ t. max (number X e t) (f t)) 0 m t k

  pub raised_to_other : (s t : ℕ) → (s ≡ e → ⊥) → number (raised_to m X e f) s t ≡ number X s t
  unfolding raised_to
  raised_to_other s t d = number_set_other X e s t _ d

pub raised_to_shaped : {n m : ℕ} {X : Vectors} (e : ℕ) (f : ℕ → ℕ) → Shaped n m X → e < n → Shaped n m (raised_to m X e f)
unfolding raised_to
raised_to_shaped {n} {m} {X} e f s h = set_shaped n m X e _ h (list_of-length (λ t. max (number X e t) (f t)) 0 m) s

-- two ways to raise a row to the same numbers
pub raised_to_alike : {n m : ℕ} {X : Vectors} (e : ℕ) (f g : ℕ → ℕ) → Shaped n m X → e < n → ((t : ℕ) → t < m → max (number X e t) (f t) ≡ max (number X e t) (g t))
    → raised_to m X e f ≡ raised_to m X e g
raised_to_alike {n} {m} {X} e f g s h q =
    let x = s.rows in
    same_numbers (raised_to_shaped e f s h) (raised_to_shaped e g s h) λ a t j k. cases (eqb a e)
    (λ b. rw (eqb-true a e b) (raised_to_same m X e f t (omega arith) k ∙ q t k ∙ sym (raised_to_same m X e g t (omega arith) k)))
    (λ b. raised_to_other m X e f a t (eqb-false a e b) ∙ sym (raised_to_other m X e g a t (eqb-false a e b)))

-- raising a row to numbers that are not above changes nothing
pub raised_to_none : {n m : ℕ} {X : Vectors} (e : ℕ) (f : ℕ → ℕ) → Shaped n m X → e < n → ((t : ℕ) → t < m → f t ≤ number X e t) → raised_to m X e f ≡ X
raised_to_none {n} {m} {X} e f s h q =
    let x = s.rows in
    same_numbers (raised_to_shaped e f s h) s λ a t j k. cases (eqb a e)
    (λ b. rw (eqb-true a e b) (raised_to_same m X e f t (omega arith) k ∙ max-eq_left (q t k)))
    (λ b. raised_to_other m X e f a t (eqb-false a e b))

-- a row raised in the flat list is raised among its rows
pub chunks_raised : (n m : ℕ) (l : List ℕ) (e : ℕ) (f : ℕ → ℕ) → length l ≡ n * m → e < n → chunks n m (raised_at l (e * m) f m) ≡ raised_to m (chunks n m l) e f
chunks_raised n m l e f h p =
    let X = chunks n m l in
    let s = chunks_shaped n m l h in
    let x = s.rows in
    let h' : length (raised_at l (e * m) f m) ≡ n * m = raised_length l (e * m) f m ∙ h in
    same_numbers (chunks_shaped n m (raised_at l (e * m) f m) h') (raised_to_shaped e f s p) λ a t j k.
    number_chunks n m (raised_at l (e * m) f m) a t h' k
    ∙ compared a e
    (λ d. raised_outside l (e * m) f m (a * m + t) (inl (omega (arith, next_row a e m d))) ∙ other a t k (λ q. omega arith))
    (λ q. rw q (raised_inside l (e * m) f m t (omega (arith, next_row e n m p)) k
    ∙ ap (λ (y : ℕ). max y (f t)) (sym (number_chunks n m l e t h k)) ∙ sym (raised_to_same m (chunks n m l) e f t (omega arith) k)))
    (λ d. raised_outside l (e * m) f m (a * m + t) (inr (omega (arith, next_row e a m d))) ∙ other a t k (λ q. omega arith))
  where
    other : (a t : ℕ) → t < m → (a ≡ e → ⊥) → get_or l (a * m + t) 0 ≡ number (raised_to m (chunks n m l) e f) a t
    other a t k d = sym (number_chunks n m l a t h k) ∙ sym (raised_to_other m (chunks n m l) e f a t d)

-- ---- one turn of raising a row

-- the numbers that turn t reads
pub column_read : (l v : List ℕ) (m e : ℕ) (f : ℕ → ℕ) (t : ℕ) → t < m → v ≡ raised_at l (e * m) f t → (s : ℕ) → get_or v (s * m + t) 0 ≡ get_or l (s * m + t) 0
column_read l v m e f t h q s = ap (λ (u : List ℕ). get_or u (s * m + t) 0) q ∙ column_kept l f m e s t h

pub columns_read : (l v : List ℕ) (m e : ℕ) (f : ℕ → ℕ) (t : ℕ) (es : List ℕ) → t < m → v ≡ raised_at l (e * m) f t → column m v t es ≡ column m l t es
unfolding column
columns_read l v m e f t es h q = map_same _ _ es (column_read l v m e f t h q)

-- the number that it raises
pub raise_turn : (l v : List ℕ) (m e : ℕ) (f : ℕ → ℕ) (t y : ℕ) → t < m → v ≡ raised_at l (e * m) f t
    → max (get_or l (e * m + t) 0) y ≡ max (get_or l (e * m + t) 0) (f t) → set v (e * m + t) (max (get_or v (e * m + t) 0) y) ≡ raised_at l (e * m) f (t + 1)
unfolding raised_at
raise_turn l v m e f t y h q p =
    let r : max (get_or v (e * m + t) 0) y ≡ max (get_or l (e * m + t) 0) (f t) = omega (arith, column_read l v m e f t h q e) in
    rw (add-one t) (ap₂ (λ (u : List ℕ) (x : ℕ). set u (e * m + t) x) q r)

pub raised_start : (l : List ℕ) (a : ℕ) (f : ℕ → ℕ) → l ≡ raised_at l a f 0
unfolding raised_at
raised_start l a f = refl
