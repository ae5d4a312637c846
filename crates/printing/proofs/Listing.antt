-- The lines of the entries: one more at each turn, and in the end those of the list.
-- Assumes nothing.
use Prim.Native.Nat.{ℕ, zero, suc, ◌+◌, ◌/◌, ◌≤◌}
use mathlib.Core.Path.{◌≡◌, refl, sym, ap, ◌∙◌}
use mathlib.Core.List.{List, [], ◌∷◌, ◌++◌, append_assoc, append-nil}
use native.Mathlib.Numerals.{add-one}
use native.Mathlib.Omega.{arith}
use lib.ListN.{length, get_or-eq_default}
use Rattle.model.specs.Numbers.{each}
use Rattle.model.specs.Recording.{no_event}
use Rattle.model.specs.File.{events_of}
use Rattle.model.specs.Pairs.{Entry, entry_numbers}
use Rattle.model.proofs.Files.{events_length}
use Rattle.model.proofs.Listed.{next_entry}
use Rattle.printing.specs.Output.{Put}
use Rattle.model.specs.Report.{entry_text, entries_text}
use Rattle.printing.specs.Entries.{object_in, nth_line}
use Rattle.printing.proofs.Putting.{put_then}

pub object_past : (s : List ℕ) (e : ℕ) → length s / 4 ≤ e → 0 ≡ object_in s e
object_past s e h =
    let g : length (events_of s) ≤ e = omega (arith, events_length s) in
    ap (λ v. v.object) (sym (get_or-eq_default (events_of s) no_event g))

-- ---- the loop

pub none : (f : ℕ → List ℕ) → each f 0 ≡ []
unfolding each
none f = refl

pub put_more : (f : ℕ → List ℕ) (i : ℕ) {a b c : List ℕ} {at j k : ℕ} → Put a b at (each f i) j → Put b c j (f i) k → Put a c at (each f (i + 1)) k
unfolding each
put_more f i p q = rw (add-one i) (put_then p q)

-- ---- the list

each_cons : (f : ℕ → List ℕ) (n : ℕ) → each f (suc n) ≡ f 0 ++ each (λ i. f (suc i)) n
unfolding each
each_cons f zero = sym (append-nil (f 0))
each_cons f (suc n) = rw (each_cons f n) (append_assoc (f 0) (each (λ i. f (suc i)) n) (f (suc n)))

each_alike : (f g : ℕ → List ℕ) (n : ℕ) → ((i : ℕ) → f i ≡ g i) → each f n ≡ each g n
unfolding each
each_alike f g zero h = refl
each_alike f g (suc n) h = rw (each_alike f g n h, h n)

-- one line for each entry of the list that the numbers hold
pub each_entry : (s : List ℕ) (l : List Entry) (rest : List ℕ) → each (nth_line s (entry_numbers l ++ rest)) (length l) ≡ entries_text (events_of s) l
unfolding entry_numbers entries_text nth_line
each_entry s [] rest = none _
each_entry s (p ∷ l) rest =
    each_cons (nth_line s (entry_numbers (p ∷ l) ++ rest)) (length l)
    ∙ ap (λ (x : List ℕ). entry_text (events_of s) p ++ x)
    (each_alike _ _ (length l) (λ i. ap (entry_text (events_of s)) (next_entry p (entry_numbers l ++ rest) i)) ∙ each_entry s l rest)
