-- Texts put one after the other into an output: each place is where the next text goes, and past the end nothing changes.
-- Assumes nothing.
use Prim.Native.Nat.{ℕ, suc, ◌+◌, ◌≤◌, ◌<◌, min}
use mathlib.Core.Path.{◌≡◌, refl, sym, ap, ◌∙◌}
use mathlib.Core.Bool.{false}
use mathlib.Core.List.{List, [], ◌∷◌, ◌++◌}
use native.Mathlib.Nat.{min_comm, min-eq_left, min-eq_right, add-zero, zero-add}
use native.Mathlib.Numerals.{add-one}
use native.Mathlib.Omega.{arith}
use lib.Dec.{leb}
use lib.ListN.{length, get_or, set, take, drop, length-append, length-set, length-take, take-append-drop, drop_of_length-le}
use lib.Seq.{sets, sets-eq, length-sets, set_out, take_all, take-suc, length-take-le}
use Rattle.model.proofs.Tests.{cases, leb-true, leb-false}
use Rattle.model.proofs.Stores.{sets-append}
use Rattle.model.specs.Report.{laid, filling}
use Rattle.printing.specs.Output.{Put}

-- ---- a run of stores

sets_past : (vs l : List ℕ) (i : ℕ) → length l ≤ i → sets l i vs ≡ l
sets_past [] l i h = refl
sets_past (v ∷ vs) l i h = rw (set_out l i v h) (sets_past vs l (suc i) (omega arith))

-- ---- the lesser of two numbers

first_least : (a b : ℕ) → a ≤ b → a ≡ min a b
first_least a b h = sym (min-eq_left h)

second_least : (a b : ℕ) → b ≤ a → b ≡ min a b
second_least a b h = sym (min-eq_right h)

-- ---- one text

pub put_nothing : (l : List ℕ) (i : ℕ) → i ≤ length l → Put l l i [] i
put_nothing l i h = record { bytes = refl; place = first_least i (length l) h ∙ rw (add-zero i); within = h }

pub put_here : (l : List ℕ) (i b : ℕ) → i < length l → Put l (set l i b) i (b ∷ []) (i + 1)
put_here l i b h =
    let f : i + 1 ≤ length l = omega arith in
    record { bytes = refl; place = first_least (i + 1) (length l) f; within = omega (arith, length-set l i b) }

pub put_full : (l : List ℕ) (i b : ℕ) → i ≤ length l → length l ≤ i → Put l l i (b ∷ []) i
put_full l i b h g =
    let e : i ≡ length l = omega arith in
    let f : length l ≤ i + 1 = omega arith in
    record { bytes = sym (sets_past (b ∷ []) l i g); place = e ∙ second_least (i + 1) (length l) f; within = h }

-- ---- one text after another

-- the place after both, whether or not the first one fits
place_then : (i x y n j k : ℕ) → j ≡ min (i + x) n → k ≡ min (j + y) n → k ≡ min (i + (x + y)) n
place_then i x y n j k p q =
    cases (leb (i + x) n)
    (λ t.
    let f : i + x ≤ n = leb-true _ _ t in
    let e : j + y ≡ i + (x + y) = let s : j ≡ i + x = p ∙ min-eq_left f in omega arith in
    q ∙ ap (λ (m : ℕ). min m n) e
    )
    (λ t.
    let f : n < i + x = leb-false _ _ t in
    let g : n ≤ i + x = omega arith in
    let s : j ≡ n = p ∙ min-eq_right g in
    let u : n ≤ j + y = omega arith in
    let w : n ≤ i + (x + y) = omega arith in
    q ∙ min-eq_right u ∙ second_least (i + (x + y)) n w
    )

-- stores that go on from the place after the first text, or at an end that it ran past
stores_then : (xs ys l : List ℕ) (i j : ℕ) → j ≡ min (i + length xs) (length l) → sets (sets l i xs) j ys ≡ sets l i (xs ++ ys)
stores_then xs ys l i j p =
    let m = sets l i xs in
    let same : length m ≡ length l = length-sets l i xs in
    cases (leb (i + length xs) (length l))
    (λ t.
    let f : i + length xs ≤ length l = leb-true _ _ t in
    rw (p ∙ min-eq_left f) (sym (sets-append xs ys l i))
    )
    (λ t.
    let f : length l < i + length xs = leb-false _ _ t in
    let g : length l ≤ i + length xs = omega arith in
    let s : j ≡ length l = p ∙ min-eq_right g in
    let u : length m ≤ j = omega arith in
    let w : length m ≤ i + length xs = omega arith in
    sets_past ys m j u ∙ sym (sets_past ys m (i + length xs) w) ∙ sym (sets-append xs ys l i)
    )

pub put_then : {a b c xs ys : List ℕ} {i j k : ℕ} → Put a b i xs j → Put b c j ys k → Put a c i (xs ++ ys) k
put_then {a} {b} {c} {xs} {ys} {i} {j} {k} p q =
    let e : length b ≡ length a = ap length p.bytes ∙ length-sets a i xs in
    let s : k ≡ min (j + length ys) (length a) = q.place ∙ ap (λ (n : ℕ). min (j + length ys) n) e in
    record {
      bytes = q.bytes ∙ ap (λ (l : List ℕ). sets l j ys) p.bytes ∙ stores_then xs ys a i j p.place;
      place = place_then i (length xs) (length ys) (length a) j k p.place s ∙ ap (λ (n : ℕ). min (i + n) (length a)) (sym (length-append xs ys));
      within = q.within;
    }

-- one byte more of a text
pub put_next : (text : List ℕ) (k : ℕ) {a b c : List ℕ} {i j m : ℕ} → k < length text → Put a b i (take k text) j → Put b c j (get_or text k 0 ∷ []) m
    → Put a c i (take (k + 1) text) m
put_next text k h p q = rw (add-one k, take-suc text k 0 h) (put_then p q)

-- ---- a text at the start

laid_all : (text l : List ℕ) → length text ≤ length l → sets l 0 text ≡ laid text l
unfolding laid
laid_all text l h = sets-eq text l 0 (omega arith) ∙ rw (zero-add (length text), take_all (length l) text h)

-- a text that is longer than the output fills it
laid_over : (text l : List ℕ) → length l ≤ length text → sets l 0 text ≡ laid text l
unfolding laid
laid_over text l h =
    let xs = take (length l) text in
    let n : length xs ≡ length l = length-take-le (length l) text h in
    let m : length (sets l 0 xs) ≤ 0 + length xs = omega (arith, length-sets l 0 xs) in
    ap (λ (x : List ℕ). sets l 0 x) (sym (take-append-drop (length l) text))
    ∙ sets-append xs (drop (length l) text) l 0
    ∙ sets_past (drop (length l) text) (sets l 0 xs) (0 + length xs) m
    ∙ laid_all xs l (omega arith)
    ∙ rw (take_all (length l) xs (omega arith), drop_of_length-le l {i = length xs} (omega arith), drop_of_length-le l {i = length text} h)

pub put_laid : (l m text : List ℕ) (r : ℕ) → Put l m 0 text r → (m ≡ laid text l) × (r ≡ filling text l)
unfolding filling
put_laid l m text r p =
    let over : leb (length text) (length l) ≡ false → sets l 0 text ≡ laid text l = λ t.
    let f : length l < length text = leb-false _ _ t in laid_over text l (omega arith)
    in (
      p.bytes ∙ cases (leb (length text) (length l)) (λ t. laid_all text l (leb-true _ _ t)) over,
      p.place ∙ rw (zero-add (length text)),
    )

-- the bytes that are put are bytes of the output
pub filling_within : (text l m : List ℕ) (r : ℕ) → r ≡ filling text l → m ≡ laid text l → r ≤ length m
unfolding filling laid
filling_within text l m r p q =
    let front : length (take (length l) text) ≡ r = length-take (length l) text ∙ min_comm (length l) (length text) ∙ sym p in
    omega (arith, ap length q ∙ length-append (take (length l) text) (drop (length text) l))
