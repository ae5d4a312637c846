-- Race pairs and their marks, and the parts that the list is made of. Assumes nothing.
use mathlib.Core.Path.{◌≡◌, sym, ap, ◌∙◌}
use mathlib.Core.Bool.{Bool, true, false, cond}
use mathlib.Core.List.{List, [], ◌∷◌}
use Prim.Native.Nat.{ℕ, suc, ◌+◌, ◌*◌, ◌≤◌, ◌<◌}
use native.Mathlib.Omega.{arith}
use lib.Dec.{eqb, ltb}
use lib.ListN.{length, get_or, drop}
use borrow.Author.Tests.{lt-ltb, le-ltb}
use Rattle.model.specs.declared.Event.{Event}
use Rattle.model.specs.declared.Counts.{Counts}
use Rattle.model.specs.Numbers.{each}
use Rattle.model.specs.Recording.{Recording, cells, event, object_of}
use Rattle.model.specs.File.{recording_by}
use Rattle.model.specs.Vectors.{Vectors, unordered}
use Rattle.model.specs.Pairs.{is_access, is_access_of, conflict, race_pair, mark, Entry, entry, pair_at, entries_of, row_at, cell_entries, entries_in}
use Rattle.model.proofs.Tests.{cases, clash, fails, both, second, and_false, eq-eqb}
use Rattle.model.proofs.Listed.{conflict_accesses, conflict_object}
use Rattle.model.proofs.Each.{each_none, each_most, flat_each, tails_each}
use Rattle.pairs.specs.Chains.{Nearest}
use Rattle.pairs.specs.Lent.{row_of}
use Rattle.pairs.proofs.Chains.{skipped}

-- what is no access has no conflict
conflict_access : (v w : Event) → is_access v ≡ false → conflict v w ≡ false
conflict_access v w p = fails (conflict v w) (λ t. clash (conflict_accesses v w t).0 p)

-- a conflict is with an access of the same cell
conflict_other : (v w : Event) → is_access_of v.object w ≡ false → conflict v w ≡ false
conflict_other v w p =
    fails (conflict v w) (λ t. clash (both (conflict_accesses v w t).1 (eq-eqb w.object v.object (sym (conflict_object v w t)))) p)

module _ (E : Recording) (X : Vectors) (a b : ℕ) where
  pub race_none : conflict (event E a) (event E b) ≡ false → false ≡ race_pair E X a b
  unfolding race_pair
  race_none p = rw p

  pub race_by : (u : Bool) → conflict (event E a) (event E b) ≡ true → u ≡ unordered E.events X a b → u ≡ race_pair E X a b
  unfolding race_pair
  race_by u p e = rw (p, e)

  race_access : is_access (event E a) ≡ false → race_pair E X a b ≡ false
  race_access p = sym (race_none (conflict_access (event E a) (event E b) p))

  race_other : is_access_of (object_of E a) (event E b) ≡ false → race_pair E X a b ≡ false
  race_other p = sym (race_none (conflict_other (event E a) (event E b) p))

  pub mark_by : (m : Bool) → m ≡ unordered E.events X a b → ◌≡◌ {A = ℕ} (cond m 1 0) (mark E X a b)
  unfolding mark
  mark_by m e = rw e

module _ (E : Recording) (X R : Vectors) where
  pub pair_hit : (a b : ℕ) → race_pair E X a b ≡ true → pair_at E X R a b ≡ entry E R a b ∷ []
  pair_hit a b p = rw p

  pub pair_miss : (a b : ℕ) → race_pair E X a b ≡ false → pair_at E X R a b ≡ []
  pair_miss a b p = rw p

  pub pair_most : (a b : ℕ) → length (pair_at E X R a b) ≤ 1
  pair_most a b = cases (race_pair E X a b) (λ p. rw p (omega arith)) (λ p. rw p (omega arith))

-- ---- the parts of a list by their places in an order

cond_same : (b : Bool) → ◌≡◌ {A = List Entry} (cond b [] []) []
cond_same b = cases b (λ p. rw p) (λ p. rw p)

-- the entry of the events at the places i and j, where j is behind i
abbrev pub pair_in : Recording → Vectors → Vectors → List ℕ → ℕ → ℕ → List Entry
pair_in E X R order i j = cond (ltb i j) (pair_at E X R (get_or order i 0) (get_or order j 0)) []

-- the row of the event at place i, where it is on cell c
abbrev pub row_in : Recording → Vectors → Vectors → List ℕ → ℕ → ℕ → List Entry
row_in E X R order c i = row_at E X R c (get_or order i 0) (drop (suc i) order)

module _ (E : Recording) (X R : Vectors) (order : List ℕ) where
  pub row_each : (i : ℕ) → row_of E X R order i ≡ each (pair_in E X R order i) (length order)
  unfolding entries_of
  row_each i = flat_each (pair_at E X R (get_or order i 0)) (suc i) order

  pub cell_each : (c : ℕ) → cell_entries E X R order c ≡ each (row_in E X R order c) (length order)
  unfolding cell_entries
  cell_each c = tails_each (row_at E X R c) order

  pub behind_hit : (a b i j : ℕ) → a ≡ get_or order i 0 → b ≡ get_or order j 0 → i < j → pair_in E X R order i j ≡ pair_at E X R a b
  behind_hit a b i j p q h = rw (lt-ltb i j h, p, q)

  behind_miss : (i j : ℕ) → race_pair E X (get_or order i 0) (get_or order j 0) ≡ false → pair_in E X R order i j ≡ []
  behind_miss i j p = rw p (cond_same (ltb i j))

  pub behind_most : (i j : ℕ) → length (pair_in E X R order i j) ≤ 1
  behind_most i j = cases (ltb i j) (λ p. rw p (pair_most E X R (get_or order i 0) (get_or order j 0))) (λ p. rw p (omega arith))

  pub row_from : (i : ℕ) → each (pair_in E X R order i) (i + 1) ≡ []
  row_from i = each_none (pair_in E X R order i) (i + 1) (λ j h. rw (le-ltb i j (omega arith)))

  row_none : (i : ℕ) → is_access (event E (get_or order i 0)) ≡ false → row_of E X R order i ≡ []
  row_none i p = row_each i ∙ each_none (pair_in E X R order i) (length order) (λ j h. behind_miss i j (race_access E X (get_or order i 0) (get_or order j 0) p))

  pub row_most : (i : ℕ) → length (row_of E X R order i) ≤ length order
  row_most i = omega (arith, ap length (row_each i), each_most (pair_in E X R order i) 1 (behind_most i) (length order))

  -- a place that starts a row of cell c, and one that does not
  pub row_hit : (c i : ℕ) → is_access_of c (event E (get_or order i 0)) ≡ true → row_in E X R order c i ≡ row_of E X R order i
  row_hit c i p = let a = get_or order i 0 in rw (second (is_access (event E a)) (eqb (object_of E a) c) p)

  pub row_miss : (c i : ℕ) → is_access_of c (event E (get_or order i 0)) ≡ false → row_in E X R order c i ≡ []
  row_miss c i p =
      let a = get_or order i 0 in
      cases (is_access (event E a)) (λ h. rw (and_false (is_access (event E a)) (eqb (object_of E a) c) p h))
      (λ h. rw (row_none i h) (cond_same (eqb (object_of E a) c)))

  pub row_at_most : (c i : ℕ) → length (row_in E X R order c i) ≤ length order
  row_at_most c i = cases (eqb (object_of E (get_or order i 0)) c) (λ p. rw p (row_most i)) (λ p. rw p (omega arith))

  pub cell_most : (c : ℕ) → length order ≤ 1024 → length (cell_entries E X R order c) ≤ 1048576
  cell_most c h = omega (arith, ap length (cell_each c), each_most (row_in E X R order c) 1024 (λ i. omega (arith, row_at_most c i)) (length order))

  pub list_most : length order ≤ 1024 → length (entries_in E X R order) ≤ cells E * 1048576
  unfolding entries_in
  list_most h = each_most (cell_entries E X R order) 1048576 (λ c. cell_most c h) (cells E)

-- what the chain of a cell passes over has no part: neither among the pairs of an access, nor among the rows of a cell
module _ (s : List ℕ) (c : Counts) (X R : Vectors) (order : List ℕ) where
  abbrev E : Recording
  E = recording_by s c []

  pub pair_passed : (i k : ℕ) → is_access_of (object_of E (get_or order i 0)) (event E (get_or order k 0)) ≡ false → pair_in E X R order i k ≡ []
  pair_passed i k h = behind_miss E X R order i k (race_other E X (get_or order i 0) (get_or order k 0) h)

  pub pair_skip : (i m j : ℕ) → Nearest s order (object_of E (get_or order i 0)) m j → each (pair_in E X R order i) j ≡ each (pair_in E X R order i) m
  pair_skip i m j n =
      skipped (pair_in E X R order i) s order (object_of E (get_or order i 0)) m j n
      (pair_passed i)

  pub pair_start : (i j : ℕ) → Nearest s order (object_of E (get_or order i 0)) (i + 1) j → each (pair_in E X R order i) j ≡ []
  pair_start i j n = pair_skip i (i + 1) j n ∙ row_from E X R order i

  pub row_skip : (x m j : ℕ) → Nearest s order x m j → each (row_in E X R order x) j ≡ each (row_in E X R order x) m
  row_skip x m j n = skipped (row_in E X R order x) s order x m j n (λ i h. row_miss E X R order x i h)
