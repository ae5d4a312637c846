-- Laws of naming: the five numbers of an entry, and entries that are written over numbers already read.
-- Assumes nothing.
use Prim.Native.Nat.{ℕ, suc, ◌+◌, ◌-◌, ◌*◌, ◌≤◌, ◌<◌}
use mathlib.Core.Path.{◌≡◌, refl, sym, ap, ◌∙◌}
use mathlib.Core.List.{List, [], ◌∷◌, ◌++◌, append_assoc}
use native.Mathlib.Numerals.{add-one}
use native.Mathlib.Omega.{arith}
use lib.ListN.{length, get_or, take, drop, length-append}
use lib.Seq.{sets, sets-eq, length-sets, take-append-le, take-take, drop_at, drop-drop, length-take-le, get_or-take}
use borrow.Rule.Slice.PartMut.{put_mid}
use Rattle.model.specs.declared.Event.{Event}
use Rattle.model.specs.Numbers.{flat_map, list_from}
use Rattle.model.specs.Recording.{Recording, event_in}
use Rattle.model.specs.Vectors.{Vectors, position}
use Rattle.model.specs.Pairs.{Entry, entry_at}
use Rattle.together.specs.Naming.{either_mark, named}

-- numbers copied over a part are stored one after the other
copied : (v us : List ℕ) (at n : ℕ) → n ≡ length us → at + length us ≤ length v → put_mid at n v us ≡ sets v at us
copied v us at n e h =
    rw (e, drop-drop (length us) at v) (sym (append_assoc (take at v) us (drop (at + length us) v)) ∙ sym (sets-eq us v at h))

-- the numbers that are copied are those of the entry
pub stored_named : (l : List Event) (F : Recording) (R : Vectors) (kept : List ℕ) (a b m : ℕ) (out us : List ℕ) (at n : ℕ) (v w : Event) (p q k : ℕ)
    → us ≡ v.task ∷ p ∷ w.task ∷ q ∷ k ∷ [] → n ≡ 5 → at + 5 ≤ length out
    → v ≡ event_in l a → w ≡ event_in l b → p ≡ position l a → q ≡ position l b → k ≡ either_mark F R kept a b m
    → put_mid at n out us ≡ sets out at (named l F R kept (record { first = a; second = b; mark = m }))
unfolding named
stored_named l F R kept a b m out us at n v w p q k z e h f g i j o =
    rw (z, f, g, i, j, o) (copied out (named l F R kept (record { first = a; second = b; mark = m })) at n e h)

flat_first : (f : Entry → List ℕ) (g : ℕ → Entry) (i n : ℕ) → flat_map f (list_from g i (suc n)) ≡ f (g i) ++ flat_map f (list_from g (i + 1) n)
unfolding flat_map list_from
flat_first f g i n = rw (add-one i)

pub five_numbers : (l : List Event) (F : Recording) (R : Vectors) (kept : List ℕ) (p : Entry) → length (named l F R kept p) ≡ 5
unfolding named
five_numbers l F R kept p = refl

-- ---- entries of three numbers, the last one first, turned into n entries of five by f

-- those from i on are turned, and those below i are as they were
pub record Turned (f : Entry → List ℕ) (n : ℕ) (old : List ℕ) (i : ℕ) (list : List ℕ) : Type 0 where
  pub as_long : length list ≡ length old
  pub before : take (3 * i) list ≡ take (3 * i) old
  pub behind : drop (5 * i) list ≡ flat_map f (list_from (entry_at old) i (n - i)) ++ drop (5 * n) old

module _ (f : Entry → List ℕ) (n : ℕ) (old : List ℕ) where
  pub none_turned : Turned f n old n old
  unfolding flat_map list_from
  none_turned = let z : n - n ≡ 0 = omega arith in record { as_long = refl; before = refl; behind = rw z }

  -- an entry that is not turned yet is as it was
  pub same_entry : (i j : ℕ) (list : List ℕ) → Turned f n old i list → j < i → entry_at list j ≡ entry_at old j
  same_entry i j list t h = rw (at (3 * j) (omega arith), at (3 * j + 1) (omega arith), at (3 * j + 2) (omega arith))
    where
      at : (k : ℕ) → k < 3 * i → get_or list k 0 ≡ get_or old k 0
      at k l = sym (get_or-take (3 * i) list k 0 l) ∙ ap (λ (x : List ℕ). get_or x k 0) t.before ∙ get_or-take (3 * i) old k 0 l

  -- entry i is turned, and what it is written over is read no more
  module _ (i : ℕ) (list : List ℕ) (t : Turned f n old (i + 1) list) (h : i < n) (five : length (f (entry_at old i)) ≡ 5) (room : 5 * n ≤ length old) where
    abbrev out : List ℕ
    out = sets list (5 * i) (f (entry_at old i))

    parts : out ≡ take (5 * i) list ++ f (entry_at old i) ++ drop (5 * (i + 1)) list
    parts =
        let k : 5 * i + length (f (entry_at old i)) ≡ 5 * (i + 1) = omega (arith, five) in
        sets-eq (f (entry_at old i)) list (5 * i) (omega (arith, t.as_long, five)) ∙ rw k

    front : length (take (5 * i) list) ≡ 5 * i
    front = length-take-le (5 * i) list (omega (arith, t.as_long))

    turned_next : Turned f n old i out
    turned_next =
        record {
          as_long = length-sets list (5 * i) (f (entry_at old i)) ∙ t.as_long;
          before =
              ap (take (3 * i)) parts
              ∙ take-append-le (3 * i) (take (5 * i) list ++ f (entry_at old i)) (drop (5 * (i + 1)) list) (omega (arith, front, length-append (take (5 * i) list) (f (entry_at old i))))
              ∙ take-append-le (3 * i) (take (5 * i) list) (f (entry_at old i)) (omega (arith, front)) ∙ take-take (3 * i) (5 * i) list (omega arith)
              ∙ below;
          behind =
              ap (drop (5 * i)) (parts ∙ append_assoc (take (5 * i) list) (f (entry_at old i)) (drop (5 * (i + 1)) list))
              ∙ drop_at (take (5 * i) list) (f (entry_at old i) ++ drop (5 * (i + 1)) list) (5 * i) front
              ∙ ap (λ (x : List ℕ). f (entry_at old i) ++ x) t.behind
              ∙ sym (append_assoc (f (entry_at old i)) (flat_map f (list_from (entry_at old) (i + 1) (n - (i + 1)))) (drop (5 * n) old))
              ∙ ap (λ (x : List ℕ). x ++ drop (5 * n) old) first_of;
        }
      where
        -- the first of the entries from i on
        first_of : f (entry_at old i) ++ flat_map f (list_from (entry_at old) (i + 1) (n - (i + 1))) ≡ flat_map f (list_from (entry_at old) i (n - i))
        first_of = let k : n - i ≡ suc (n - (i + 1)) = omega arith in rw k (sym (flat_first f (entry_at old) i (n - (i + 1))))

        below : take (3 * i) list ≡ take (3 * i) old
        below =
            sym (take-take (3 * i) (3 * (i + 1)) list (omega arith)) ∙ ap (take (3 * i)) t.before ∙ take-take (3 * i) (3 * (i + 1)) old (omega arith)

  -- the same of what a turn of the loop leaves, k entries having been left before it
  pub turn : (k i : ℕ) (list out : List ℕ) → k ≡ i + 1 → k ≤ n → ((p : Entry) → length (f p) ≡ 5) → 5 * n ≤ length old → Turned f n old k list
      → out ≡ sets list (5 * i) (f (entry_at list i)) → Turned f n old i out
  turn k i list out e h five room t q =
      let u = rw e at t in
      let s = q ∙ ap (λ (p : Entry). sets list (5 * i) (f p)) (same_entry (i + 1) i list u (omega arith)) in
      rw s (turned_next i list u (omega arith) (five (entry_at old i)) room)
