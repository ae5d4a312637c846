-- The list goes by cell, lower task, its position, higher task, its position: its events do so in task order, and each part of the
-- list comes before the next.
-- Assumes nothing.
use Prim.Native.Nat.{ℕ, zero, suc, ◌≤◌, ◌<◌}
use mathlib.Core.Path.{◌≡◌, refl, sym, ap, subst, subst₂, ◌∙◌}
use mathlib.Core.Logic.{◌⊎◌, inl, inr}
use mathlib.Core.Bool.{Bool, true, false, cond, ◌&&◌}
use mathlib.Core.List.Memᴰ
use mathlib.Core.List.{List, [], ◌∷◌, ◌++◌, Memᴰ}
use native.Mathlib.Omega.{arith}
use lib.Dec.{ltb, eqb}
use Rattle.model.specs.Numbers.{each, flat_map, flat_map_tails, picked}
use Rattle.model.specs.Recording.{Recording, size, tasks, cells, event, task_of, object_of, of_task}
use Rattle.model.specs.Vectors.{Vectors}
use Rattle.model.specs.Passes.{safe_vectors}
use Rattle.model.specs.Recorded.{recorded}
use Rattle.model.specs.Pairs.{race_pair, Entry, entry, pair_at, entries_of, row_at, cell_entries, entries_in, own_events, task_order, entries, listed}
use Rattle.model.specs.Ascending.{is_less, Rising, rank, key, AscendingListed}
use Rattle.model.proofs.Tests.{cases, clash, either, first, second, compared, ltb-true, eqb-true, lt-ltb, eq-eqb}
use Rattle.model.proofs.Each.{each_of, flat_of, where_of}
use Rattle.model.proofs.Picked.{picked_mem}
use Rattle.model.proofs.Positions.{position_rises}
use Rattle.model.proofs.Listed.{row_of, race_tasks}

-- ---- lists of numbers

less_first : (x y : ℕ) (l m : List ℕ) → x < y → is_less (x ∷ l) (y ∷ m) ≡ true
unfolding is_less
less_first x y l m h = rw (lt-ltb x y h)

-- behind equal numbers
less_behind : (x y : ℕ) (l m : List ℕ) → x ≡ y → is_less l m ≡ true → is_less (x ∷ l) (y ∷ m) ≡ true
unfolding is_less
less_behind x y l m e h = rw (eq-eqb x y e, h) (cases (ltb x y) (λ t. rw t) (λ t. rw t))

-- whatever follows
less_then : (l m r s : List ℕ) → is_less l m ≡ true → is_less (l ++ r) (m ++ s) ≡ true
unfolding is_less
less_then [] m r s h = clash h refl
less_then (x ∷ l) [] r s h = clash h refl
less_then (x ∷ l) (y ∷ m) r s h = go (either (ltb x y) (eqb x y && is_less l m) h) (λ k. less_then l m r s k)
  where
    go : (ltb x y ≡ true) ⊎ ((eqb x y && is_less l m) ≡ true) → (is_less l m ≡ true → is_less (l ++ r) (m ++ s) ≡ true) → is_less (x ∷ l ++ r) (y ∷ m ++ s) ≡ true
    go (inl t) ih = less_first x y (l ++ r) (m ++ s) (ltb-true x y t)
    go (inr t) ih = less_behind x y (l ++ r) (m ++ s) (eqb-true x y (first (eqb x y) (is_less l m) t)) (ih (second (eqb x y) (is_less l m) t))

less_head : (x y : ℕ) (l m : List ℕ) → is_less (x ∷ l) (y ∷ m) ≡ true → x ≤ y
unfolding is_less
less_head x y l m h = go (either (ltb x y) (eqb x y && is_less l m) h)
  where
    go : (ltb x y ≡ true) ⊎ ((eqb x y && is_less l m) ≡ true) → x ≤ y
    go (inl t) = let k = ltb-true x y t in omega arith
    go (inr t) = let k = eqb-true x y (first (eqb x y) (is_less l m) t) in omega arith

-- ---- rising lists

module _ {A : Type 0} (r : A → A → Bool) where
  rising_append : (l m : List A) → Rising r l → Rising r m → ((x y : A) → Memᴰ x l → Memᴰ y m → r x y ≡ true) → Rising r (l ++ m)
  unfolding Rising
  rising_append [] m p q h = q
  rising_append (x ∷ l) m p q h =
      (λ y k. which y (Memᴰ.append_cases l k), rising_append l m p.1 q (λ a b i j. h a b (Memᴰ.tail i) j))
    where
      which : (y : A) → Memᴰ y l ⊎ Memᴰ y m → r x y ≡ true
      which y (inl k) = p.0 y k
      which y (inr k) = h x y (Memᴰ.head refl) k

  rising_each : (f : ℕ → List A) → ((i : ℕ) → Rising r (f i)) → ((i j : ℕ) (x y : A) → i < j → Memᴰ x (f i) → Memᴰ y (f j) → r x y ≡ true)
      → (n : ℕ) → Rising r (each f n)
  unfolding Rising each
  rising_each f own h zero = tt
  rising_each f own h (suc n) =
      rising_append (each f n) (f n) (rising_each f own h n) (own n) (λ x y a b. let (i, l, m) = each_of x f n a in h i n x y l m b)

  -- a list that is there only where a test passes
  rising_where : (t : Bool) (l : List A) → Rising r l → Rising r (cond t l [])
  unfolding Rising
  rising_where true l p = p
  rising_where false l p = tt

  rising_one : (x : A) → Rising r (x ∷ [])
  unfolding Rising
  rising_one x = (λ y k. absurd (Memᴰ.not-nil k), tt)

-- ---- the events in task order

module _ (E : Recording) where
  abbrev sooner : ℕ → ℕ → Bool
  sooner a b = is_less (rank E a) (rank E b)

  own_rising : (t : ℕ) → Rising sooner (own_events E.events t)
  unfolding picked
  own_rising t =
      rising_each sooner one (λ e. rising_where sooner (of_task t (event E e)) (e ∷ []) (rising_one sooner e))
      (λ i j x y l a b. let (p, s) = of i x a in let (q, u) = of j y b in by_position x y (omega arith) (s ∙ sym u)) (size E)
    where
      one : ℕ → List ℕ
      one e = cond (of_task t (event E e)) (e ∷ []) []

      of : (i x : ℕ) → Memᴰ x (one i) → (x ≡ i) × (task_of E x ≡ t)
      of i x k =
          let (s, m) = where_of (i ∷ []) (of_task t (event E i)) k in
          let e : x ≡ i = Memᴰ.eq_of_singleton m in
          (e, ap (task_of E) e ∙ eqb-true (task_of E i) t s)

      by_position : (x y : ℕ) → x < y → task_of E x ≡ task_of E y → sooner x y ≡ true
      by_position x y l e = less_behind _ _ _ _ e (less_first _ _ [] [] (position_rises E.events x y l e))

  order_rising : Rising sooner (task_order E.events (tasks E))
  unfolding task_order
  order_rising =
      rising_each sooner (own_events E.events) own_rising
      (λ i j x y l a b. let s = of i x a in let u = of j y b in less_first (task_of E x) (task_of E y) _ _ (omega arith)) (tasks E)
    where
      of : (t x : ℕ) → Memᴰ x (own_events E.events t) → task_of E x ≡ t
      of t x k = eqb-true (task_of E x) t (picked_mem (λ e. of_task t (event E e)) x (size E) k).1

-- ---- the entries, by an order of events that rises

module _ (E : Recording) (X R : Vectors) where
  abbrev less : Entry → Entry → Bool
  less p q = is_less (key E p) (key E q)

  -- an entry of a with one of the events o
  one_of : (a : ℕ) (o : List ℕ) (p : Entry) → Memᴰ p (entries_of E X R a o) → (b : ℕ) × Memᴰ b o × (p ≡ entry E R a b)
  unfolding entries_of
  one_of a o p k =
      let (b, m, n) = flat_of p (pair_at E X R a) o k in
      (b, m, Memᴰ.eq_of_singleton (where_of (entry E R a b ∷ []) (race_pair E X a b) n).1)

  row_rising : (a : ℕ) (o : List ℕ) → Rising (sooner E) o → Rising less (entries_of E X R a o)
  unfolding Rising entries_of flat_map
  row_rising a [] h = tt
  row_rising a (x ∷ o) h =
      rising_append less (pair_at E X R a x) (entries_of E X R a o) (rising_where less (race_pair E X a x) (entry E R a x ∷ []) (rising_one less (entry E R a x)))
      (row_rising a o h.1) next
    where
      next : (p q : Entry) → Memᴰ p (pair_at E X R a x) → Memᴰ q (entries_of E X R a o) → less p q ≡ true
      next p q k l =
          let e : p ≡ entry E R a x = Memᴰ.eq_of_singleton (where_of (entry E R a x ∷ []) (race_pair E X a x) k).1 in
          let (y, m, d) = one_of a o q l in
          subst₂ (λ (u v : Entry). less u v ≡ true) (sym e) (sym d)
          (less_behind _ _ _ _ refl (less_behind _ _ _ _ refl (less_behind _ _ _ _ refl (h.0 y m))))

  -- of an entry of cell c: its first event stands in the order, and is on c; its second stands behind it, and they race
  pub record InCell (c : ℕ) (o : List ℕ) (p : Entry) : Type 0 where
    pub first_in : Memᴰ p.first o
    pub object : object_of E p.first ≡ c
    pub behind : sooner E p.first p.second ≡ true
    pub race : race_pair E X p.first p.second ≡ true

  in_cell : (c : ℕ) (o : List ℕ) → Rising (sooner E) o → (p : Entry) → Memᴰ p (cell_entries E X R o c) → InCell c o p
  unfolding Rising cell_entries flat_map_tails
  in_cell c [] h p k = absurd (Memᴰ.not-nil k)
  in_cell c (x ∷ o) h p k = go (Memᴰ.append_cases (row_at E X R c x o) k) (λ l. in_cell c o h.1 p l)
    where
      go : Memᴰ p (row_at E X R c x o) ⊎ Memᴰ p (cell_entries E X R o c) → (Memᴰ p (cell_entries E X R o c) → InCell c o p) → InCell c (x ∷ o) p
      go (inl l) ih =
          let (e, m, t, u, d) = row_of E X R c x o p l in
          subst (InCell c (x ∷ o)) (sym d) (record { first_in = Memᴰ.head refl; object = t; behind = h.0 e m; race = u })
      go (inr l) ih = let r = ih l in record { first_in = Memᴰ.tail r.first_in; object = r.object; behind = r.behind; race = r.race }

  cell_rising : (c : ℕ) (o : List ℕ) → Rising (sooner E) o → Rising less (cell_entries E X R o c)
  unfolding Rising cell_entries flat_map_tails
  cell_rising c [] h = tt
  cell_rising c (x ∷ o) h =
      rising_append less (row_at E X R c x o) (cell_entries E X R o c) (rising_where less (eqb (object_of E x) c) (entries_of E X R x o) (row_rising x o h.1))
      (cell_rising c o h.1) next
    where
      next : (p q : Entry) → Memᴰ p (row_at E X R c x o) → Memᴰ q (cell_entries E X R o c) → less p q ≡ true
      next p q k l =
          let (e, m, t, u, d) = row_of E X R c x o p k in
          let r = in_cell c o h.1 q l in
          subst (λ (v : Entry). less v q ≡ true) (sym d)
          (less_behind _ _ _ _ (t ∙ sym r.object) (less_then (rank E x) (rank E q.first) (rank E e) (rank E q.second) (h.0 q.first r.first_in)))

  list_rising : (o : List ℕ) → Rising (sooner E) o → Rising less (entries_in E X R o)
  unfolding entries_in
  list_rising o h =
      rising_each less (cell_entries E X R o) (λ c. cell_rising c o h)
      (λ i j p q l a b.
      let r = in_cell i o h p a in
      let s = in_cell j o h q b in less_first (object_of E p.first) (object_of E q.first) _ _ (omega (arith, r.object, s.object))) (cells E)

  lower_first : (o : List ℕ) → Rising (sooner E) o → (p : Entry) → Memᴰ p (entries_in E X R o) → task_of E p.first < task_of E p.second
  unfolding entries_in
  lower_first o h p k =
      let (c, l, m) = each_of p (cell_entries E X R o) (cells E) k in
      let r = in_cell c o h p m in
      let apart = race_tasks E X p.first p.second r.race in
      compared (task_of E p.first) (task_of E p.second) (λ t. t) (λ t. absurd (apart t))
      (λ t. let z = less_head _ _ _ _ r.behind in absurd (omega arith))

-- ---- the theorem

pub ascending : AscendingListed
unfolding listed entries
ascending E budget =
    record {
      lower_first = lower_first E (safe_vectors E budget) (recorded E) (task_order E.events (tasks E)) (order_rising E);
      by_key = list_rising E (safe_vectors E budget) (recorded E) (task_order E.events (tasks E)) (order_rising E);
    }
