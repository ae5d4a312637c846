-- The entries of the first recording's settled list, named with the marks of both, are the one list.
-- Assumes nothing.
use Prim.Native.Nat.{ℕ, zero, suc, ◌+◌, ◌*◌, ◌≤◌, ◌<◌}
use mathlib.Core.Path.{◌≡◌, refl, sym, ap, ap₂, subst, ◌∙◌}
use mathlib.Core.Bool.{Bool, true, false}
use mathlib.Core.List.{List, [], ◌∷◌, ◌++◌, map, Memᴰ}
use native.Mathlib.Nat.{le_of_suc-le-suc, not-suc-le-zero}
use native.Mathlib.Omega.{arith}
use lib.Dec.{leb}
use lib.ListN.{length, get_or, drop, length-map}
use lib.Seq.{ext_get_or, drop-append-add, drop-drop}
use Rattle.model.specs.declared.Event.{Event}
use Rattle.model.specs.declared.Counts.{Counts}
use Rattle.model.specs.Numbers.{flat_map}
use Rattle.model.specs.Recording.{Recording, size}
use Rattle.model.specs.File.{recording_by}
use Rattle.model.specs.Passes.{budget_of}
use Rattle.model.specs.Recorded.{recorded}
use Rattle.model.specs.Pairs.{mark, Entry, listed, entry_numbers, entry_at}
use Rattle.model.specs.Together.{name_of, settled_pairs, joint_mark, joint_entry, joint_list, joint_fits}
use Rattle.model.specs.Vectors.{Vectors}
use Rattle.model.proofs.Tests.{leb-true}
use Rattle.model.proofs.Listed.{numbers_length, next_entry}
use Rattle.model.proofs.Lists.{list_of-length, list_of_at}
use Rattle.model.proofs.Promise.{entry_inside}
use Rattle.model.proofs.Twins.{Twin}
use Rattle.model.proofs.JointMarks.{entry_mark, twin_mark}
use Rattle.alike.specs.Alike.{Counterparts}
use Rattle.pairs.specs.Lent.{WrittenList}
use Rattle.together.specs.Naming.{entries_at, named}

-- ---- entries read from their numbers

pub entry_read : (d : Entry) (es : List Entry) (rest : List ℕ) (i : ℕ) → i < length es → entry_at (entry_numbers es ++ rest) i ≡ get_or es i d
unfolding entry_numbers
entry_read d [] rest i h = absurd (not-suc-le-zero h)
entry_read d (p ∷ es) rest zero h = refl
entry_read d (p ∷ es) rest (suc i) h = next_entry p (entry_numbers es ++ rest) i ∙ entry_read d es rest i (le_of_suc-le-suc h)

pub entries_read : (es : List Entry) (rest : List ℕ) → entries_at (entry_numbers es ++ rest) (length es) ≡ es
entries_read es rest =
    let d = entry_at [] 0 in
    let n = list_of-length (entry_at (entry_numbers es ++ rest)) d (length es) in
    ext_get_or d (entries_at (entry_numbers es ++ rest) (length es)) es n
    (λ i h. let k : i < length es = omega (arith, n) in list_of_at (entry_at (entry_numbers es ++ rest)) d (length es) i k ∙ entry_read d es rest i k)

-- an entry that is read is one of them
pub read_in : (es : List Entry) (d : Entry) (i : ℕ) → i < length es → Memᴰ (get_or es i d) es
read_in [] d i h = absurd (not-suc-le-zero h)
read_in (p ∷ es) d zero h = Memᴰ.head refl
read_in (p ∷ es) d (suc i) h = Memᴰ.tail (read_in es d i (le_of_suc-le-suc h))

-- ---- the one list

flat_map_lem : {A B : Type 0} (f : A → List ℕ) (g : B → List ℕ) (h : A → B) (l : List A) → ((x : A) → Memᴰ x l → f x ≡ g (h x)) → flat_map f l ≡ flat_map g (map h l)
unfolding flat_map
flat_map_lem f g h [] e = refl
flat_map_lem f g h (x ∷ l) e = ap₂ (λ (i j : List ℕ). i ++ j) (e x (Memᴰ.head refl)) (flat_map_lem f g h l (λ y k. e y (Memᴰ.tail k)))

-- with the twin of each event kept
module _ (E F : Recording) (kept : List ℕ) (twins : (e : ℕ) → e < size E → Twin E.events F.events e (get_or kept e 0)) where
  entry_named : (b : ℕ) (p : Entry) → Memᴰ p (listed E b) → named E.events F (recorded F) kept p ≡ joint_entry E F (name_of E.events p)
  unfolding named joint_entry joint_mark name_of
  entry_named b p h =
      let (k, l) = entry_inside E b p h in
      let own = entry_mark E b p h in
      let other = twin_mark E F p.first p.second _ _ p.mark (twins p.first k) (twins p.second l) in
      rw (own, other)

  pub joined : flat_map (named E.events F (recorded F) kept) (listed E (budget_of E)) ≡ joint_list E F
  unfolding joint_list
  joined = flat_map_lem (named E.events F (recorded F) kept) (joint_entry E F) (name_of E.events) (listed E (budget_of E)) (entry_named (budget_of E))

-- ---- the list as it is written

-- the first recording's list, with room for five numbers an entry
module _ (E : Recording) (l l' : List ℕ) (t : Bool) (n : ℕ) (o : WrittenList 5 (listed E (budget_of E)) l l' t n) where
  pub all_pairs : n ≡ length (settled_pairs E)
  all_pairs = o.counted ∙ sym (length-map (listed E (budget_of E)) (name_of E.events))

  pub their_room : joint_fits E l ≡ t
  their_room = ap (λ (k : ℕ). leb (5 * k) (length l)) (sym all_pairs ∙ o.counted) ∙ sym o.room

  pub unwritten : t ≡ false → l' ≡ l
  unwritten short = o.written ∙ rw short

  module _ (fits : t ≡ true) where
    written : l' ≡ entry_numbers (listed E (budget_of E)) ++ drop (3 * length (listed E (budget_of E))) l
    written = o.written ∙ rw fits

    pub room_left : 5 * n ≤ length l
    room_left = let r = leb-true (5 * length (listed E (budget_of E))) (length l) (sym o.room ∙ fits) in omega (arith, o.counted)

    -- its entries are of its events
    pub of_first : (i : ℕ) → i < n → ((entry_at l' i).first < size E) × ((entry_at l' i).second < size E)
    of_first i h =
        let es = listed E (budget_of E) in
        let d = entry_at [] 0 in
        let k : i < length es = omega (arith, o.counted) in
        subst (λ (p : Entry). (p.first < size E) × (p.second < size E)) (sym (ap (λ (x : List ℕ). entry_at x i) written ∙ entry_read d es _ i k))
        (entry_inside E (budget_of E) (get_or es i d) (read_in es d i k))

    their_entries : entries_at l' n ≡ listed E (budget_of E)
    their_entries = ap₂ entries_at written o.counted ∙ entries_read (listed E (budget_of E)) (drop (3 * length (listed E (budget_of E))) l)

    beyond : drop (5 * n) l' ≡ drop (5 * n) l
    beyond =
        let es = listed E (budget_of E) in
        let k : 5 * n ≡ length (entry_numbers es) + 2 * n = omega (arith, numbers_length es, o.counted) in
        let m : 3 * length es + 2 * n ≡ 5 * n = omega (arith, o.counted) in
        ap₂ drop k written ∙ drop-append-add (entry_numbers es) (drop (3 * length es) l) (2 * n) ∙ drop-drop (2 * n) (3 * length es) l ∙ rw m

    -- named, they are the one list
    pub one_list : (F : Recording) (kept : List ℕ) (f : Entry → List ℕ) (out : List ℕ) → f ≡ named E.events F (recorded F) kept
        → ((e : ℕ) → e < size E → Twin E.events F.events e (get_or kept e 0))
        → out ≡ flat_map f (entries_at l' n) ++ drop (5 * n) l' → out ≡ joint_list E F ++ drop (5 * length (settled_pairs E)) l
    one_list F kept f out g twins e =
        e ∙ ap₂ (λ (x y : List ℕ). x ++ y) (ap₂ flat_map g their_entries ∙ joined E F kept twins) (beyond ∙ ap (λ (k : ℕ). drop (5 * k) l) all_pairs)

-- naming reads no levels
pub named_levels : (l : List Event) (s : List ℕ) (c : Counts) (v : List ℕ) (R : Vectors) (kept : List ℕ)
    → named l (recording_by s c []) R kept ≡ named l (recording_by s c v) R kept
unfolding named mark
named_levels l s c v R kept = refl

-- what is kept for each event of the first recording is its twin
pub twins : (E F : Recording) (kept : List ℕ) → Counterparts E.events F.events kept → (e : ℕ) → e < size E → Twin E.events F.events e (get_or kept e 0)
twins E F kept k e l =
    record { left = l; right = k.inside e l; same = sym (k.same e l); place = sym (k.placed e l) }
