-- Step 1: what is found is taken one event after another, and in the end the largest of all, number by number, is there.
-- Assumes nothing.
use Prim.Native.Nat.{ℕ, ◌+◌, ◌*◌, ◌/◌, ◌%◌, ◌<◌, zero-le, max}
use Rattle.std.specs.Prelude.{Option, Some, None}
use mathlib.Core.Path.{◌≡◌, refl, sym, ap, ap₂, ◌∙◌}
use mathlib.Core.List.{List, [], ◌∷◌, ◌++◌, append_assoc}
use native.Mathlib.Omega.{arith}
use lib.Dec.{eqb}
use lib.ListN.{length, get_or, set}
use Rattle.model.specs.declared.Counts.{Counts}
use Rattle.model.specs.declared.Event.{Event}
use Rattle.model.specs.Numbers.{found, largest}
use Rattle.model.specs.Recording.{Recording, size, tasks}
use Rattle.model.specs.Vectors.{Vectors, number}
use Rattle.model.specs.Passes.{sources, gathered, step_one}
use Rattle.model.proofs.Tests.{cases, eqb-true, eqb-false}
use Rattle.model.proofs.Climb.{Shaped}
use Rattle.vectors.specs.Rows.{chunks, raised_to}
use Rattle.vectors.proofs.Chunks.{next_row, same_numbers, chunks_shaped, number_chunks}
use Rattle.vectors.proofs.Raised.{raised_to_same, raised_to_other, raised_to_shaped, raised_to_alike, raised_to_none, chunks_raised}
use Rattle.passes.specs.Lent.{Inside, raised_found}
use Rattle.events.specs.Kept.{Below, source_of}
use Rattle.events.proofs.Kept.{place_of, three_sources}
use Rattle.passes.specs.Steps.{taken}

-- numbers that differ only where they are not above y
largest_under : (f g : ℕ → ℕ) (y : ℕ) (l : List ℕ) → ((s : ℕ) → max y (f s) ≡ max y (g s)) → max y (largest f l) ≡ max y (largest g l)
unfolding largest
largest_under f g y [] h = refl
largest_under f g y (x ∷ l) h =
    apart y (f x) (largest f l) ∙ ap₂ (λ (a b : ℕ). max a b) (h x) (largest_under f g y l h) ∙ sym (apart y (g x) (largest g l))
  where
    apart : (y a b : ℕ) → max y (max a b) ≡ max (max y a) (max y b)
    apart y a b = omega arith

largest_append : (f : ℕ → ℕ) (l k : List ℕ) → largest f (l ++ k) ≡ max (largest f l) (largest f k)
unfolding largest
largest_append f [] k = omega arith
largest_append f (x ∷ l) k = omega (arith, largest_append f l k)

module _ (c : Counts) {n : ℕ} (X : Vectors) (e : ℕ) (s : Shaped n c.tasks X) (h : e < n) where
  pub taken_shaped : (from : List ℕ) → Shaped n c.tasks (taken c X from e)
  unfolding taken
  taken_shaped from = raised_to_shaped e _ s h

  taken_same : (from : List ℕ) (t : ℕ) → t < c.tasks → number (taken c X from e) e t ≡ max (number X e t) (largest (λ a. number X a t) from)
  unfolding taken
  taken_same from t k = let x = s.rows in raised_to_same c.tasks X e (λ t. largest (λ a. number X a t) from) t (omega arith) k

  taken_other : (from : List ℕ) (a t : ℕ) → (a ≡ e → ⊥) → number (taken c X from e) a t ≡ number X a t
  unfolding taken
  taken_other from a t d = raised_to_other c.tasks X e (λ t. largest (λ a. number X a t) from) a t d

-- to take some and then others is to take them all
pub taken_then : (c : Counts) {n : ℕ} (X : Vectors) (e : ℕ) → Shaped n c.tasks X → e < n → (from more : List ℕ)
    → taken c (taken c X from e) more e ≡ taken c X (from ++ more) e
taken_then c {n} X e s h from more =
    let Y = taken c X from e in
    let r = taken_shaped c X e s h from in
    same_numbers (taken_shaped c Y e r h more) (taken_shaped c X e s h (from ++ more)) λ a t j k.
    cases (eqb a e)
    (λ b. rw (eqb-true a e b) (own t k))
    (λ b.
    let d = eqb-false a e b in
    taken_other c Y e r h more a t d ∙ taken_other c X e s h from a t d ∙ sym (taken_other c X e s h (from ++ more) a t d))
  where
    regroup : (x y z : ℕ) → max (max x y) z ≡ max x (max y z)
    regroup x y z = omega arith

    own : (t : ℕ) → t < c.tasks → number (taken c (taken c X from e) more e) e t ≡ number (taken c X (from ++ more) e) e t
    own t k =
        let Y = taken c X from e in
        let r = taken_shaped c X e s h from in
        let u = taken_same c X e s h from t k in
        let same : (a : ℕ) → max (number (taken c X from e) e t) (number (taken c X from e) a t) ≡ max (number (taken c X from e) e t) (number X a t) =
        λ a. cases (eqb a e)
        (λ b. rw (eqb-true a e b) (omega arith))
        (λ b. ap (max (number (taken c X from e) e t)) (taken_other c X e s h from a t (eqb-false a e b))) in
        let w = largest_under (λ a. number (taken c X from e) a t) (λ a. number X a t) (number (taken c X from e) e t) more same in
        let z = largest_append (λ a. number X a t) from more in
        taken_same c Y e r h more t k
        ∙ w
        ∙ ap (λ (y : ℕ). max y (largest (λ a. number X a t) more)) u
        ∙ regroup (number X e t) (largest (λ a. number X a t) from) (largest (λ a. number X a t) more)
        ∙ ap (max (number X e t)) (sym z)
        ∙ sym (taken_same c X e s h (from ++ more) t k)

-- one found event taken in the flat list
pub taken_found : (c : Counts) (n : ℕ) (l : List ℕ) (e : ℕ) (f : Option ℕ) → length l ≡ n * c.tasks → e < n
    → chunks n c.tasks (raised_found c.tasks l e f) ≡ taken c (chunks n c.tasks l) (found f) e
unfolding taken largest
taken_found c n l e None q h = sym (raised_to_none e _ (chunks_shaped n c.tasks l q) h (λ t k. zero-le))
taken_found c n l e (Some a) q h =
    let m = c.tasks in
    chunks_raised n m l e (λ t. get_or l (a * m + t) 0) q h
    ∙ raised_to_alike e _ _ (chunks_shaped n m l q) h
    (λ t k. let y = number_chunks n m l a t q k in omega arith)

-- the vector of a found event lies in the list
pub inside : (m n len : ℕ) (f : Option ℕ) → len ≡ n * m → Below n f → Inside m len f
inside m n len None q b = tt
inside m n len (Some a) q b = omega (arith, next_row a n m b)

-- ---- as the definitions have it

pub gathered_taken : (E : Recording) (X : Vectors) (from : List ℕ) (e : ℕ) → set X e (gathered E X from e) ≡ taken E.counts X from e
unfolding gathered taken raised_to largest
gathered_taken E X from e = refl

-- some, then others, then others again
pub three_taken : (c : Counts) {n : ℕ} (X Y Z W : Vectors) (e : ℕ) → Shaped n c.tasks X → e < n → (from more rest : List ℕ)
    → Y ≡ taken c X from e → Z ≡ taken c Y more e → W ≡ taken c Z rest e → W ≡ taken c X (from ++ (more ++ rest)) e
three_taken c X Y Z W e s h from more rest p q r =
    r
    ∙ ap (λ (U : Vectors). taken c U rest e) (q ∙ ap (λ (U : Vectors). taken c U more e) p ∙ taken_then c X e s h from more)
    ∙ taken_then c X e s h (from ++ more) rest
    ∙ ap (λ (all : List ℕ). taken c X all e) (append_assoc from more rest)

-- step 1: the source of an event that is kept at place i, and the three sources one after another
abbrev kept : List Event → ℕ → List ℕ
kept l i = found (source_of l (i / 3) (i % 3))

kept_at : (l : List Event) (i e j : ℕ) → i ≡ 3 * e + j → j < 3 → kept l i ≡ found (source_of l e j)
kept_at l i e j q h = let (d, o) = place_of i e j q h in ap₂ (λ (a b : ℕ). found (source_of l a b)) d o

three_kept : (l : List Event) (e : ℕ) → kept l (3 * e) ++ (kept l (3 * e + 1) ++ kept l (3 * e + 2)) ≡ sources l e
three_kept l e =
    ap₂ ◌++◌ (kept_at l (3 * e) e 0 (omega arith) (omega arith)) (ap₂ ◌++◌ (kept_at l (3 * e + 1) e 1 (omega arith) (omega arith)) (kept_at l (3 * e + 2) e 2 (omega arith) (omega arith)))
    ∙ sym (three_sources l e)

pub step_one_lem : (E : Recording) (X Y Z W : Vectors) (e : ℕ) → Shaped (size E) (tasks E) X → e < size E → Y ≡ taken E.counts X (kept E.events (3 * e)) e
    → Z ≡ taken E.counts Y (kept E.events (3 * e + 1)) e → W ≡ taken E.counts Z (kept E.events (3 * e + 2)) e → W ≡ step_one E X e
unfolding step_one
step_one_lem E X Y Z W e s h p q r =
    three_taken E.counts X Y Z W e s h _ _ _ p q r
    ∙ ap (λ (all : List ℕ). taken E.counts X all e) (three_kept E.events e)
    ∙ sym (gathered_taken E X (sources E.events e) e)
