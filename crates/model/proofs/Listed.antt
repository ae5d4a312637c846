-- What stands on the list, and that a larger budget leaves no more on it.
-- Assumes nothing.
use Prim.Native.Nat.{ℕ, suc, ◌+◌, ◌*◌, ◌<◌}
use mathlib.Core.Path.{◌≡◌, refl, sym, ap, subst, subst₂, ◌∙◌}
use mathlib.Core.Logic.{◌⊎◌, inl, inr}
use mathlib.Core.Bool.{Bool, true, false, cond, not, ◌&&◌, ◌||◌, and_comm, or_comm}
use mathlib.Core.List.Memᴰ
use mathlib.Core.List.{List, [], ◌∷◌, Memᴰ}
use native.Mathlib.Nat.{le_trans}
use native.Mathlib.Omega.{arith}
use lib.Dec.{eqb}
use lib.ListN.{length}
use Rattle.model.specs.declared.Event.{Event}
use Rattle.model.specs.declared.Counts.{Counts}
use Rattle.model.specs.Numbers.{flat_map_tails}
use Rattle.model.specs.Recording.{Recording, cells, event, task_of, object_of, class_of, names_of, read, write, single_read, single_write}
use Rattle.model.specs.Vectors.{Vectors, number, position, ordered, unordered}
use Rattle.model.specs.Pairs.{is_read, is_write, is_access, is_single, conflict, race_pair, mark, Entry, entry, entries_of, row_at, cell_entries, entries_in, Among, entry_numbers, entry_at}
use Rattle.model.specs.Rows.Conflicts.{Symmetric}
use Rattle.model.proofs.Tests.{clash, fails, of-not, to_not, both, first, second, all_three, either, le-leb, leb-true, eqb-true, eqb-false, eq-eqb, eqb_turned}
use Rattle.model.proofs.Climb.{AtMost}
use Rattle.model.proofs.Each.{each_of, each_in, flat_of, flat_in, where_of, where_in}

-- ---- a conflict, and what is not ordered, has no first and second

pub symmetric : Symmetric
unfolding conflict
symmetric v w =
    rw (and_comm (is_access v) (is_access w), eqb_turned v.object w.object, eqb_turned v.task w.task, or_comm (is_write v) (is_write w), and_comm (is_single v) (is_single w))

pub unordered_turned : (l : List Event) (X : Vectors) (a b : ℕ) → unordered l X a b ≡ unordered l X b a
unfolding unordered
unordered_turned l X a b = and_comm (not (ordered l X a b)) (not (ordered l X b a))

-- neither is ordered before the other
pub unordered_apart : (l : List Event) (X : Vectors) (a b : ℕ) → unordered l X a b ≡ true → (ordered l X a b ≡ false) × (ordered l X b a ≡ false)
unfolding unordered
unordered_apart l X a b h = (
  of-not (ordered l X a b) (first _ (not (ordered l X b a)) h),
  of-not (ordered l X b a) (second (not (ordered l X a b)) _ h),
)

-- a conflict is between accesses of one cell, from two tasks
module _ (v w : Event) (h : conflict v w ≡ true) where
  abbrev shared : Bool
  shared = is_access v && is_access w && eqb v.object w.object

  abbrev apart : Bool
  apart = shared && not (eqb v.task w.task)

  sharing : (shared ≡ true) × (not (eqb v.task w.task) ≡ true)
  unfolding conflict
  sharing =
      let t = first apart (is_write v || is_write w) (first (apart && (is_write v || is_write w)) (not (is_single v && is_single w)) h) in
      (first shared _ t, second shared _ t)

  pub conflict_accesses : (is_access v ≡ true) × (is_access w ≡ true)
  conflict_accesses = let (a, b, c) = all_three (is_access v) (is_access w) _ sharing.0 in (a, b)

  pub conflict_object : v.object ≡ w.object
  conflict_object = eqb-true v.object w.object (second (is_access v && is_access w) _ sharing.0)

  conflict_tasks : ¬ (v.task ≡ w.task)
  conflict_tasks = eqb-false v.task w.task (of-not _ sharing.1)

-- a conflict is on a cell
pub conflict_cell : (c : Counts) (v w : Event) → conflict v w ≡ true → names_of c (class_of v.kind) ≡ c.cells
unfolding class_of
conflict_cell c v w h = go (either (is_read v) (is_write v) (conflict_accesses v w h).0)
  where
    by : (k l : ℕ) → names_of c (class_of k) ≡ c.cells → names_of c (class_of l) ≡ c.cells → (eqb v.kind k ≡ true) ⊎ (eqb v.kind l ≡ true)
        → names_of c (class_of v.kind) ≡ c.cells
    by k l p q (inl t) = ap (λ (n : ℕ). names_of c (class_of n)) (eqb-true v.kind k t) ∙ p
    by k l p q (inr t) = ap (λ (n : ℕ). names_of c (class_of n)) (eqb-true v.kind l t) ∙ q

    go : (is_read v ≡ true) ⊎ (is_write v ≡ true) → names_of c (class_of v.kind) ≡ c.cells
    go (inl t) = by read single_read refl refl (either (eqb v.kind read) (eqb v.kind single_read) t)
    go (inr t) = by write single_write refl refl (either (eqb v.kind write) (eqb v.kind single_write) t)

-- lower numbers order less
pub ordered_more : (E : Recording) (X Y : Vectors) → AtMost X Y → (a b : ℕ) → ordered E.events X a b ≡ true → ordered E.events Y a b ≡ true
unfolding ordered
ordered_more E X Y up a b h =
    both (first (not (eqb a b)) _ h) (le-leb _ _ (le_trans (leb-true (position E.events a) (number X b (task_of E a)) (second (not (eqb a b)) _ h)) (up b (task_of E a))))

-- ---- the parts of a race pair

module _ (E : Recording) (X : Vectors) (a e : ℕ) where
  pub race_turned : race_pair E X a e ≡ race_pair E X e a
  unfolding race_pair
  race_turned = rw (symmetric (event E a) (event E e), unordered_turned E.events X a e)

  module _ (h : race_pair E X a e ≡ true) where
    pub race_conflict : conflict (event E a) (event E e) ≡ true
    unfolding race_pair
    race_conflict = first (conflict (event E a) (event E e)) (unordered E.events X a e) h

    race_unordered : unordered E.events X a e ≡ true
    unfolding race_pair
    race_unordered = second (conflict (event E a) (event E e)) (unordered E.events X a e) h

    pub race_apart : (ordered E.events X a e ≡ false) × (ordered E.events X e a ≡ false)
    race_apart = unordered_apart E.events X a e race_unordered

    -- they are on one cell, and of two tasks
    pub race_object : object_of E a ≡ object_of E e
    race_object = conflict_object (event E a) (event E e) race_conflict

    pub race_tasks : ¬ (task_of E a ≡ task_of E e)
    race_tasks = conflict_tasks (event E a) (event E e) race_conflict

pub race_more : (E : Recording) (X Y : Vectors) → AtMost X Y → (a e : ℕ) → race_pair E Y a e ≡ true → race_pair E X a e ≡ true
unfolding race_pair unordered
race_more E X Y up a e h =
    let (p, q) = race_apart E Y a e h in
    both (race_conflict E Y a e h) (both (still a e p) (still e a q))
  where
    still : (a b : ℕ) → ordered E.events Y a b ≡ false → not (ordered E.events X a b) ≡ true
    still a b q = to_not (fails (ordered E.events X a b) (λ t. clash (ordered_more E X Y up a b t) q))

-- ---- a mark tells whether the recorded vectors order the two events

module _ (E : Recording) (R : Vectors) (a e : ℕ) (v : Bool) where
  pub mark_by : unordered E.events R a e ≡ v → mark E R a e ≡ cond v 1 0
  unfolding mark
  mark_by h = ap (λ (u : Bool). cond u 1 0) h

  pub mark_tells : mark E R a e ≡ cond v 1 0 → unordered E.events R a e ≡ v
  unfolding mark
  mark_tells h = go (unordered E.events R a e) v h
    where
      go : (u v : Bool) → ◌≡◌ {A = ℕ} (cond u 1 0) (cond v 1 0) → u ≡ v
      go true true h = refl
      go false false h = refl
      go true false h = absurd (omega arith)
      go false true h = absurd (omega arith)

-- ---- members of a list of entries, by any order of the events

-- an entry for the events a and e with the mark m, in either order: they stand in the order, race on a cell of the recording, and
-- the mark is theirs
pub record Entered (E : Recording) (X R : Vectors) (order : List ℕ) (a e m : ℕ) : Type 0 where
  pub first_in : Memᴰ a order
  pub second_in : Memᴰ e order
  pub cell : object_of E a < cells E
  pub race : race_pair E X a e ≡ true
  pub marked : m ≡ mark E R a e

module _ (E : Recording) (X R : Vectors) where
  pub mark_turned : (a e : ℕ) → mark E R a e ≡ mark E R e a
  unfolding mark
  mark_turned a e = rw (unordered_turned E.events R a e)

  turned : {o : List ℕ} {a e m : ℕ} → Entered E X R o a e m → Entered E X R o e a m
  turned {o} {a} {e} {m} r =
      record {
        first_in = r.second_in;
        second_in = r.first_in;
        cell = subst (λ (x : ℕ). x < cells E) (race_object E X a e r.race) r.cell;
        race = sym (race_turned E X a e) ∙ r.race;
        marked = r.marked ∙ mark_turned a e;
      }

  behind : {o : List ℕ} {x a e m : ℕ} → Entered E X R o a e m → Entered E X R (x ∷ o) a e m
  behind r = record { first_in = Memᴰ.tail r.first_in; second_in = Memᴰ.tail r.second_in; cell = r.cell; race = r.race; marked = r.marked }

  -- a race pair is entered by the one of its events that stands first
  row_in : (a e : ℕ) (o : List ℕ) → Memᴰ e o → race_pair E X a e ≡ true → Memᴰ (entry E R a e) (row_at E X R (object_of E a) a o)
  unfolding entries_of
  row_in a e o m t =
      where_in (entries_of E X R a o) (eqb (object_of E a) (object_of E a)) (eq-eqb (object_of E a) (object_of E a) refl)
      (flat_in (entry E R a e) _ o e m (where_in (entry E R a e ∷ []) (race_pair E X a e) t (Memᴰ.head refl)))

  cell_in : (o : List ℕ) (a e : ℕ) → Memᴰ a o → Memᴰ e o → race_pair E X a e ≡ true
      → Memᴰ (entry E R a e) (cell_entries E X R o (object_of E a)) ⊎ Memᴰ (entry E R e a) (cell_entries E X R o (object_of E a))
  unfolding cell_entries flat_map_tails
  cell_in [] a e h _ t = elim h [ ]
  cell_in (x ∷ o) a e (Memᴰ.head p) (Memᴰ.head q) t = absurd (race_tasks E X a e t (ap (task_of E) (p ∙ sym q)))
  cell_in (x ∷ o) a e (Memᴰ.head p) (Memᴰ.tail n) t =
      inl (Memᴰ.append_left _ (subst (λ (y : ℕ). Memᴰ (entry E R a e) (row_at E X R (object_of E a) y o)) p (row_in a e o n t)))
  cell_in (x ∷ o) a e (Memᴰ.tail m) (Memᴰ.head q) t =
      inr
      (Memᴰ.append_left _
      (subst₂ (λ (c y : ℕ). Memᴰ (entry E R e a) (row_at E X R c y o)) (sym (race_object E X a e t)) q
      (row_in e a o m (sym (race_turned E X a e) ∙ t))))
  cell_in (x ∷ o) a e (Memᴰ.tail m) (Memᴰ.tail n) t = further (cell_in o a e m n t)
    where
      further : Memᴰ (entry E R a e) (cell_entries E X R o (object_of E a)) ⊎ Memᴰ (entry E R e a) (cell_entries E X R o (object_of E a))
          → Memᴰ (entry E R a e) (cell_entries E X R (x ∷ o) (object_of E a)) ⊎ Memᴰ (entry E R e a) (cell_entries E X R (x ∷ o) (object_of E a))
      further (inl k) = inl (Memᴰ.append_right (row_at E X R (object_of E a) x o) k)
      further (inr k) = inr (Memᴰ.append_right (row_at E X R (object_of E a) x o) k)

  pub among_in : (o : List ℕ) (a e m : ℕ) → Entered E X R o a e m → Among (entries_in E X R o) a e m
  unfolding entries_in
  among_in o a e m r =
      subst (Among (entries_in E X R o) a e) (sym r.marked) (listed (cell_in o a e r.first_in r.second_in r.race))
    where
      here : (p : Entry) → Memᴰ p (cell_entries E X R o (object_of E a)) → Memᴰ p (entries_in E X R o)
      here p k = each_in p (cell_entries E X R o) (cells E) (object_of E a) r.cell k

      listed : Memᴰ (entry E R a e) (cell_entries E X R o (object_of E a)) ⊎ Memᴰ (entry E R e a) (cell_entries E X R o (object_of E a))
          → Among (entries_in E X R o) a e (mark E R a e)
      listed (inl k) = inl (here (entry E R a e) k)
      listed (inr k) =
          inr
          (subst (λ (n : ℕ). Memᴰ (record { first = e; second = a; mark = n }) (entries_in E X R o)) (mark_turned e a) (here (entry E R e a) k))

  -- an entry of a row
  pub row_of : (c x : ℕ) (o : List ℕ) (p : Entry) → Memᴰ p (row_at E X R c x o)
      → (e : ℕ) × Memᴰ e o × (object_of E x ≡ c) × (race_pair E X x e ≡ true) × (p ≡ entry E R x e)
  unfolding entries_of
  row_of c x o p k =
      let (t, m) = where_of (entries_of E X R x o) (eqb (object_of E x) c) k in
      let (e, i, n) = flat_of p _ o m in
      let (u, r) = where_of (entry E R x e ∷ []) (race_pair E X x e) n in
      (e, i, eqb-true _ c t, u, Memᴰ.eq_of_singleton r)

  -- an entry of a cell
  cell_of : (c : ℕ) → c < cells E → (o : List ℕ) (p : Entry) → Memᴰ p (cell_entries E X R o c) → Entered E X R o p.first p.second p.mark
  unfolding cell_entries flat_map_tails
  cell_of c l [] p h = absurd (Memᴰ.not-nil h)
  cell_of c l (x ∷ o) p h = go (Memᴰ.append_cases (row_at E X R c x o) h) (λ k. cell_of c l o p k)
    where
      go : Memᴰ p (row_at E X R c x o) ⊎ Memᴰ p (cell_entries E X R o c) → (Memᴰ p (cell_entries E X R o c) → Entered E X R o p.first p.second p.mark)
          → Entered E X R (x ∷ o) p.first p.second p.mark
      go (inr k) ih = behind (ih k)
      go (inl k) ih =
          let (e, i, t, u, same) = row_of c x o p k in
          subst (λ (q : Entry). Entered E X R (x ∷ o) q.first q.second q.mark) (sym same)
          (record { first_in = Memᴰ.head refl; second_in = Memᴰ.tail i; cell = subst (λ (y : ℕ). y < cells E) (sym t) l; race = u; marked = refl })

  pub entry_of : (o : List ℕ) (p : Entry) → Memᴰ p (entries_in E X R o) → Entered E X R o p.first p.second p.mark
  unfolding entries_in
  entry_of o p h = let (c, l, m) = each_of p _ (cells E) h in cell_of c l o p m

  pub among_of : (o : List ℕ) (a e m : ℕ) → Among (entries_in E X R o) a e m → Entered E X R o a e m
  among_of o a e m (inl h) = entry_of o (record { first = a; second = e; mark = m }) h
  among_of o a e m (inr h) = turned (entry_of o (record { first = e; second = a; mark = m }) h)

-- an entry is three numbers
pub numbers_length : (l : List Entry) → length (entry_numbers l) ≡ 3 * length l
unfolding entry_numbers
numbers_length [] = refl
numbers_length (p ∷ l) = omega (arith, numbers_length l)

-- with one entry in front, an entry further on
pub next_entry : (p : Entry) (l : List ℕ) (i : ℕ) → entry_at (p.first ∷ p.second ∷ p.mark ∷ l) (suc i) ≡ entry_at l i
next_entry p l i =
    let first : 3 * suc i ≡ suc (suc (suc (3 * i))) = omega arith in
    let second : 3 * suc i + 1 ≡ suc (suc (suc (3 * i + 1))) = omega arith in
    let third : 3 * suc i + 2 ≡ suc (suc (suc (3 * i + 2))) = omega arith in
    rw (third, second, first)
