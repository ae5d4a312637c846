-- Entries stored one after another, in parts. Assumes nothing.
use mathlib.Core.Path.{◌≡◌, refl, sym, ap, ◌∙◌}
use mathlib.Core.Bool.{true, false}
use mathlib.Core.List.{List, [], ◌∷◌, ◌++◌}
use Prim.Native.Nat.{ℕ, ◌+◌, ◌*◌, ◌/◌, ◌≤◌, ◌<◌}
use native.Mathlib.Nat.{mul-le-mul_right}
use native.Mathlib.Omega.{arith}
use lib.ListN.{length, drop, length-append}
use lib.Seq.{sets}
use borrow.Author.Tests.{le-leb, lt-leb}
use Rattle.model.specs.Numbers.{each}
use Rattle.model.specs.Recording.{Recording}
use Rattle.model.specs.Vectors.{Vectors}
use Rattle.model.specs.Pairs.{race_pair, mark, Entry, entry_numbers, pair_at}
use Rattle.model.proofs.Listed.{numbers_length}
use Rattle.model.proofs.Each.{each_more}
use Rattle.model.proofs.Stores.{sets-append, sets_front}
use Rattle.pairs.specs.Lent.{Stored, Laid, Width, WrittenList}
use Rattle.pairs.proofs.Race.{pair_hit}

numbers_append : (es fs : List Entry) → entry_numbers (es ++ fs) ≡ entry_numbers es ++ entry_numbers fs
unfolding entry_numbers
numbers_append [] fs = refl
numbers_append (e ∷ es) fs = ap (λ (l : List ℕ). e.first ∷ e.second ∷ e.mark ∷ l) (numbers_append es fs)

-- a first part, then a second from the place after it
stored_then : {l m o : List ℕ} {at p q : ℕ} (es fs : List Entry) → Stored l at es m p → Stored m p fs o q → Stored l at (es ++ fs) o q
stored_then {l} {m} {o} {at} es fs s t =
    record {
      numbers =
          let p : at + length (entry_numbers es) ≡ at + 3 * length es = omega (arith, numbers_length es) in
          t.numbers
          ∙ rw (s.numbers, s.next, numbers_append es fs) (rw (sets-append (entry_numbers es) (entry_numbers fs) l at, p));
      next = omega (arith, s.next, t.next, length-append es fs);
    }

-- nothing listed yet
pub laid_none : (l : List ℕ) (at : ℕ) (es : List Entry) → es ≡ [] → Laid l at es l at
unfolding entry_numbers
laid_none l at es e = rw e (record { next = omega arith; stored = λ h. record { numbers = refl; next = omega arith } })

-- the entry of a race pair, where it has room and where it has none
module _ (E : Recording) (X R : Vectors) (a b : ℕ) (h : race_pair E X a b ≡ true) (l : List ℕ) (p : ℕ) where
  pub laid_pair : (m : List ℕ) (x : ℕ) → x ≡ mark E R a b → m ≡ sets l p (a ∷ b ∷ x ∷ []) → Laid l p (pair_at E X R a b) m (p + 3)
  unfolding entry_numbers
  laid_pair m x e q = rw (pair_hit E X R a b h) (record { next = omega arith; stored = λ r. record { numbers = q ∙ rw e; next = omega arith } })

  pub laid_beyond : (m : List ℕ) → length l < p + 3 → Laid l p (pair_at E X R a b) m (p + 3)
  laid_beyond m n = rw (pair_hit E X R a b h) (record { next = omega arith; stored = λ r. absurd (omega arith) })

-- a first part, then a second
pub laid_then : {l m o : List ℕ} {at p q : ℕ} (es fs : List Entry) → length m ≡ length l → Laid l at es m p → Laid m p fs o q → Laid l at (es ++ fs) o q
laid_then es fs n s t =
    record {
      next = omega (arith, s.next, t.next, length-append es fs);
      stored = λ r. stored_then es fs (s.stored (omega (arith, t.next))) (t.stored (omega (arith, n)));
    }

-- the part i of a loop
pub laid_more : {l m o : List ℕ} {at p q : ℕ} (f : ℕ → List Entry) (i : ℕ) → length m ≡ length l → Laid l at (each f i) m p → Laid m p (f i) o q → Laid l at (each f (i + 1)) o q
laid_more f i n s t = rw (each_more f i) (laid_then (each f i) (f i) n s t)

-- all n parts are listed
pub laid_all : {l m : List ℕ} {at p : ℕ} (f : ℕ → List Entry) (i n : ℕ) → i ≡ n → Laid l at (each f i) m p → Laid l at (each f n) m p
laid_all f i n e s = rw e at s

-- stored from the front: the entries, and beyond the last one what was there
stored_front : (l : List ℕ) (es : List Entry) (m : List ℕ) (p : ℕ) → 3 * length es ≤ length l → Stored l 0 es m p → m ≡ entry_numbers es ++ drop (3 * length es) l
stored_front l es m p h s = s.numbers ∙ sets_front l (entry_numbers es) (3 * length es) (numbers_length es) h

-- a list's places are three for each of its entries
pub counted : {l m : List ℕ} {n : ℕ} (es : List Entry) → Laid l 0 es m n → n / 3 ≡ length es
counted es s = omega (arith, s.next)

-- the entries do not fit, and the list is as it was
pub refused : (width : ℕ) (es : List Entry) (l : List ℕ) (n : ℕ) → n ≡ length es → length l < width * n → WrittenList width es l l false n
refused width es l n e h = record { counted = e; room = sym (lt-leb (width * length es) (length l) (rw e at h)); written = refl }

-- room for `width` numbers an entry is room for three
enough : (width n k : ℕ) → Width width → width * n ≤ k → 3 * n ≤ k
enough width n k w h = omega (arith, mul-le-mul_right n w.0)

-- they fit, and are written
pub listed : (width : ℕ) → Width width → (es : List Entry) (l m : List ℕ) (n p : ℕ) → n ≡ length es → width * n ≤ length l → Laid l 0 es m p
    → WrittenList width es l m true n
listed width w es l m n p e h s =
    let r : width * length es ≤ length l = rw e at h in
    let k = enough width (length es) (length l) w r in
    record { counted = e; room = sym (le-leb (width * length es) (length l) r); written = stored_front l es m p k (s.stored (omega (arith, s.next))) }
