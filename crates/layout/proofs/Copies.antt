-- What an output holds once bytes have been copied to its front and behind them, up to a whole file. Assumes nothing.
use mathlib.Core.Path.{◌≡◌, refl, sym, ap, ◌∙◌}
use mathlib.Core.List.{List, [], ◌∷◌, ◌++◌}
use Prim.Native.Nat.{ℕ, zero, suc, ◌+◌, ◌-◌, ◌*◌, ◌/◌, ◌≤◌, ◌<◌}
use native.Mathlib.Nat.{add-zero, le_of_suc-le-suc, not-suc-le-zero}
use native.Mathlib.Numerals.{add-one}
use native.Mathlib.Omega.{arith}
use lib.ListN.{length, get_or, take, drop, length-append, length-drop}
use lib.Seq.{take_at, drop_at, drop-drop, take-suc, get_or-drop, length-take-le}
use Rattle.model.specs.declared.Counts.{Counts}
use Rattle.model.specs.Numbers.{flat_map}
use Rattle.model.specs.Writing.{trailer_bytes, file_of, record_at, records_in}
use Rattle.model.proofs.Picking.{in_length}

-- ---- where s stands at the front of an output, and the rest is as it was in old

module _ (s old out : List ℕ) (n : ℕ) (l : length s ≡ n) (p : out ≡ s ++ drop n old) where
  front : take n out ≡ s
  front = ap (take n) p ∙ take_at s (drop n old) n l

  beyond : (m : ℕ) → n ≤ m → drop m out ≡ drop m old
  beyond m h =
      let e : n + (m - n) ≡ m = omega arith in
      let d = ap (drop n) p ∙ drop_at s (drop n old) n l in
      rw e at (sym (drop-drop (m - n) n out) ∙ ap (drop (m - n)) d ∙ drop-drop (m - n) n old)

  -- the bytes t copied behind s
  behind : (t last : List ℕ) (m : ℕ) → n ≤ m → last ≡ take n out ++ t ++ drop m out → last ≡ s ++ t ++ drop m old
  behind t last m h q = q ∙ rw (front, beyond m h)

  -- the level bytes and the trailer written behind s
  pub filed : (c : Counts) (b last : List ℕ) → last ≡ take n out ++ b ++ trailer_bytes (n / 4) c ++ drop (n + length b + 16) out
      → last ≡ file_of s c b ++ drop (n + length b + 16) old
  unfolding file_of
  filed c b last q = q ∙ rw (front, beyond (n + length b + 16) (omega arith), l)

-- ---- the trailer copied behind level bytes that stand behind n bytes

pub ended : (old b out t last : List ℕ) (n : ℕ) (c : Counts) → n ≤ length old → out ≡ take n old ++ b ++ drop (n + length b) old
    → t ≡ trailer_bytes (n / 4) c → last ≡ take (n + length b) out ++ t ++ drop (n + length b + length t) out
    → last ≡ take n old ++ b ++ trailer_bytes (n / 4) c ++ drop (n + length b + 16) old
unfolding trailer_bytes
ended old b out t last n c h p e q =
    let l : length (take n old ++ b) ≡ n + length b = omega (arith, length-append (take n old) b, length-take-le n old h) in
    rw e at (behind (take n old ++ b) old out (n + length b) l p t last (n + length b + length t) (omega arith) q)

-- ---- records picked in an order

-- the four bytes of a record are a part of the record bytes
pub as_part : (s : List ℕ) (e : ℕ) → 4 * e + 4 ≤ length s → take (4 * e + 4 - 4 * e) (drop (4 * e) s) ≡ record_at s e
as_part s e h =
    let t = drop (4 * e) s in
    let k : 4 ≤ length t = omega (arith, length-drop (4 * e) s) in
    let n : 4 * e + 4 - 4 * e ≡ 4 = omega arith in
    rw n (take-suc t 3 0 (omega arith) ∙ rw (take-suc t 2 0 (omega arith), take-suc t 1 0 (omega arith), take-suc t 0 0 (omega arith)) (simp (get_or-drop, add-zero)))

-- one more
in_next : (s o : List ℕ) (i : ℕ) → i < length o → records_in s (take (suc i) o) ≡ records_in s (take i o) ++ record_at s (get_or o i 0)
unfolding records_in flat_map
in_next s [] i h = absurd (not-suc-le-zero h)
in_next s (e ∷ o) zero h = refl
in_next s (e ∷ o) (suc i) h = ap (λ (r : List ℕ). record_at s e ++ r) (in_next s o i (le_of_suc-le-suc h))

-- at first there are none
pub none_picked : (s out : List ℕ) → out ≡ records_in s [] ++ out
unfolding records_in flat_map
none_picked s out = refl

-- then the record that the order has at place i is copied behind those before it
pub next_picked : (s o old out last : List ℕ) (i : ℕ) → i < length o → out ≡ records_in s (take i o) ++ drop (4 * i) old
    → last ≡ take (4 * i) out ++ record_at s (get_or o i 0) ++ drop (4 * i + 4) out
    → last ≡ records_in s (take (i + 1) o) ++ drop (4 * (i + 1)) old
next_picked s o old out last i h p q =
    let l : length (records_in s (take i o)) ≡ 4 * i = omega (arith, in_length s (take i o), length-take-le i o (omega arith)) in
    let m : 4 * i + 4 ≡ 4 * (i + 1) = omega arith in
    let w = behind (records_in s (take i o)) old out (4 * i) l p (record_at s (get_or o i 0)) last (4 * i + 4) (omega arith) q in
    rw (← m, add-one i, in_next s o i h) w
