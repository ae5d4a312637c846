-- A part of a list that is 0, filled so or left so, and one number of it written: the starting row of a task.
-- Assumes nothing.
use Prim.Native.Nat.{ℕ, ◌+◌, ◌-◌, ◌≤◌, ◌<◌}
use mathlib.Core.Path.{◌≡◌, refl, sym, ap, ap₂, ◌∙◌}
use mathlib.Core.List.{List, ◌++◌, append_assoc}
use native.Mathlib.Omega.{arith}
use borrow.Rule.Slice.PartMut.{put_mid}
use lib.Dec.{eqb}
use lib.ListN.{length, set, take, drop, replicate, length-append, length-set, length-replicate, take-append-drop}
use lib.Seq.{sets, sets-eq, take_all, length-take-le, get_or-set_same, get_or-set_other, ext_get_or, drop-drop, drop-set-lt}
use Rattle.std.proofs.lemmas.List.{get_or-replicate, set-append_left, set-append_right, take-replicate, drop-replicate}
use Rattle.std.proofs.lemmas.Slice.{put_mid-paste}
use Rattle.model.proofs.Tests.{cases, eqb-true, eqb-false}
use Rattle.vectors.specs.Rows.{own_row, Zeros}
use Rattle.vectors.proofs.Chunks.{own_length, own_same, own_other}

-- a part written over
over : (v w us : List ℕ) (at m : ℕ) → at + m ≤ length v → w ≡ us → length us ≡ m → put_mid at (at + m - at) v w ≡ sets v at us
over v w us at m h e n =
    put_mid-paste at (at + m - at) v w us m e (omega arith) (sym n)
    ∙ rw (take_all m us (omega arith), ← n) (sym (sets-eq us v at (omega arith)))

-- a number of that part
set_in : (v us : List ℕ) (i k x : ℕ) → i + length us ≤ length v → k < length us → set (sets v i us) (i + k) x ≡ sets v i (set us k x)
set_in v us i k x h j =
    let front = take i v in
    let f : length front ≡ i = length-take-le i v (omega arith) in
    let n = length-set us k x in
    let d : i + k - i ≡ k = omega arith in
    let e = set-append_right front us i (i + k) x f (omega arith) in
    ap (λ (l : List ℕ). set l (i + k) x) (sets-eq us v i h)
    ∙ set-append_left (front ++ us) (drop (i + length us) v) (i + k) x (omega (arith, length-append front us))
    ∙ ap (λ (l : List ℕ). l ++ drop (i + length us) v) (rw d at e)
    ∙ sym (rw n at (sets-eq (set us k x) v i (omega arith)))

-- the row
row_own : (m own x : ℕ) → own < m → set (replicate m 0) own x ≡ own_row m own x
row_own m own x h =
    let n = length-replicate {A = ℕ} m 0 in
    let o = own_length m own x in
    ext_get_or 0 (set (replicate m 0) own x) (own_row m own x) (length-set (replicate m 0) own x ∙ n ∙ sym o) λ t j.
    let k : t < m = omega (arith, length-set (replicate m 0) own x) in
    cases (eqb t own)
    (λ b. rw (eqb-true t own b) (get_or-set_same (replicate m 0) own x 0 (omega arith) ∙ sym (own_same m own x own h refl)))
    (λ b. get_or-set_other (replicate m 0) own t x 0 (eqb-false t own b) ∙ get_or-replicate m t 0 0 k ∙ sym (own_other m own x t k (eqb-false t own b)))

row_zero : (m own x : ℕ) → m ≤ own → replicate m 0 ≡ own_row m own x
row_zero m own x h =
    let n = length-replicate {A = ℕ} m 0 in
    ext_get_or 0 (replicate m 0) (own_row m own x) (n ∙ sym (own_length m own x)) λ t j.
    get_or-replicate m t 0 0 (omega arith) ∙ sym (own_other m own x t (omega arith) (λ e. omega arith))

-- a list with that part 0, and in it one number written
zeros_written : (u v : List ℕ) (at m own x : ℕ) → at + m ≤ length v → u ≡ sets v at (replicate m 0) → own < m → set u (at + own) x ≡ sets v at (own_row m own x)
zeros_written u v at m own x h e k =
    let n = length-replicate {A = ℕ} m 0 in
    ap (λ (l : List ℕ). set l (at + own) x) e ∙ set_in v (replicate m 0) at own x (omega arith) (omega arith) ∙ ap (sets v at) (row_own m own x k)

module _ (v w : List ℕ) (at m own x : ℕ) (h : at + m ≤ length v) (e : w ≡ replicate m 0) where
  zeros : put_mid at (at + m - at) v w ≡ sets v at (replicate m 0)
  zeros = over v w (replicate m 0) at m h e (length-replicate {A = ℕ} m 0)

  pub part_own : own < m → set (put_mid at (at + m - at) v w) (at + own) x ≡ sets v at (own_row m own x)
  part_own = zeros_written _ v at m own x h zeros

  pub part_zero : m ≤ own → put_mid at (at + m - at) v w ≡ sets v at (own_row m own x)
  part_zero k = zeros ∙ ap (sets v at) (row_zero m own x k)

module _ (v : List ℕ) (at m own x : ℕ) (h : at + m ≤ length v) (z : Zeros at v) where
  -- zeros are there already
  zero_row : sets v at (replicate m 0) ≡ v
  zero_row =
      let n = length-replicate {A = ℕ} m 0 in
      let k : take m (drop at v) ≡ replicate m 0 = ap (take m) z ∙ take-replicate m (length v - at) 0 (omega arith) in
      let rest : replicate m 0 ++ drop (at + m) v ≡ drop at v = ap₂ (λ (a b : List ℕ). a ++ b) (sym k) (sym (drop-drop m at v)) ∙ take-append-drop m (drop at v) in
      rw n at (sets-eq (replicate m 0) v at (omega arith)) ∙ append_assoc (take at v) (replicate m 0) (drop (at + m) v) ∙ ap (λ (l : List ℕ). take at v ++ l) rest ∙ take-append-drop at v

  pub row_written : own < m → set v (at + own) x ≡ sets v at (own_row m own x)
  row_written = zeros_written v v at m own x h (sym zero_row)

  pub zeros_behind : own < m → Zeros (at + m) (set v (at + own) x)
  zeros_behind k =
      let n = length-set v (at + own) x in
      let l : length v - at - m ≡ length (set v (at + own) x) - (at + m) = omega arith in
      drop-set-lt (at + m) v (at + own) x (omega arith) ∙ sym (drop-drop m at v) ∙ ap (drop m) z ∙ drop-replicate m (length v - at) 0 ∙ ap (λ (k : ℕ). replicate k 0) l
