-- The list in task order and the list in file order have the same pairs and marks, and are equally long: each counts a race pair
-- once, and in both orders each event stands once.
-- Assumes nothing.
use Prim.Native.Nat.{ℕ, ◌+◌}
use mathlib.Core.Path.{◌≡◌, refl, sym, ap, ap₂, ◌∙◌}
use mathlib.Core.Bool.{Bool, true, false, cond, ◌&&◌}
use mathlib.Core.List.{List, [], ◌∷◌, Memᴰ}
use native.Mathlib.Omega.{arith}
use lib.Dec.{ltb, eqb}
use lib.ListN.{length, length-append}
use Rattle.model.specs.Numbers.{bit, sum, flat_map, flat_map_tails}
use Rattle.model.specs.Recording.{Recording, size, tasks, cells, object_of, Accepted}
use Rattle.model.specs.Orders.{file_order, occurrences}
use Rattle.model.specs.Vectors.{Vectors}
use Rattle.model.specs.Passes.{safe_vectors}
use Rattle.model.specs.Recorded.{recorded}
use Rattle.model.specs.Pairs.{race_pair, entry, pair_at, entries_of, row_at, cell_entries, entries_in, task_order, entries, listed, Among}
use Rattle.model.specs.SamePairs.{listed_by_file, SamePairs, SamePairsListed}
use Rattle.model.proofs.Tests.{cases, fails, second, and_fails, bit_false}
use Rattle.model.proofs.Sum.{sum_ext}
use Rattle.model.proofs.Place.{sum_over, over_once}
use Rattle.model.proofs.Accept.{task_inside}
use Rattle.model.proofs.FileOrder.{file_admissible, file_of_lem, file_in_lem}
use Rattle.model.proofs.Each.{each_length}
use Rattle.model.proofs.TaskOrder.{order_of, order_in, order_once}
use Rattle.model.proofs.Listed.{among_of, among_in, race_turned, race_object, race_tasks}
use Rattle.model.proofs.Files.{accepted_recording}

-- ---- sums over pairs of a list

-- over each element and each behind it
unfoldable sum_tails : (ℕ → ℕ → ℕ) → List ℕ → ℕ
sum_tails r [] = 0
sum_tails r (x ∷ l) = sum_over (r x) l + sum_tails r l

over_add : (f g : ℕ → ℕ) (l : List ℕ) → sum_over (λ e. f e + g e) l ≡ sum_over f l + sum_over g l
unfolding sum_over
over_add f g [] = refl
over_add f g (x ∷ l) = let h = over_add f g l in omega arith

over_ext : (f g : ℕ → ℕ) → ((e : ℕ) → f e ≡ g e) → (l : List ℕ) → sum_over f l ≡ sum_over g l
unfolding sum_over
over_ext f g h [] = refl
over_ext f g h (x ∷ l) = ap₂ (λ (a b : ℕ). a + b) (h x) (over_ext f g h l)

over_none : (l : List ℕ) → sum_over (λ e. 0) l ≡ 0
unfolding sum_over
over_none [] = refl
over_none (x ∷ l) = let h = over_none l in omega arith

module _ (r : ℕ → ℕ → ℕ) (alone : (a : ℕ) → r a a ≡ 0) (turned : (a b : ℕ) → r a b ≡ r b a) where
  -- over all pairs, each comes twice
  twice : (l : List ℕ) → sum_over (λ a. sum_over (r a) l) l ≡ sum_tails r l + sum_tails r l
  unfolding sum_over sum_tails
  twice [] = refl
  twice (x ∷ l) =
      let ih = twice l in
      let s = over_add (λ a. r a x) (λ a. sum_over (r a) l) l in
      let t = over_ext (λ a. r a x) (r x) (λ a. turned a x) l in
      let z = alone x in
      omega arith

  -- so it hangs on the elements alone, where each stands once
  same_tails : (n : ℕ) (o p : List ℕ) → ((e : ℕ) → occurrences e o ≡ bit (ltb e n)) → ((e : ℕ) → occurrences e p ≡ bit (ltb e n)) → sum_tails r o ≡ sum_tails r p
  same_tails n o p once once' =
      let a = twice o in
      let b = twice p in
      let c = all o once in
      let d = all p once' in
      omega arith
    where
      all : (o : List ℕ) → ((e : ℕ) → occurrences e o ≡ bit (ltb e n)) → sum_over (λ a. sum_over (r a) o) o ≡ sum (λ a. sum (r a) n) n
      all o once = over_once n o once (λ a. sum_over (r a) o) ∙ sum_ext (λ a. sum_over (r a) o) (λ a. sum (r a) n) n (λ a l. over_once n o once (r a))

-- ---- how many entries a cell has

module _ (E : Recording) (X R : Vectors) (c : ℕ) where
  races : ℕ → ℕ → Bool
  races a b = eqb (object_of E a) c && race_pair E X a b

  abbrev weight : ℕ → ℕ → ℕ
  weight a b = bit (races a b)

  weight_alone : (a : ℕ) → weight a a ≡ 0
  unfolding races
  weight_alone a = bit_false (fails (races a a) (λ t. race_tasks E X a a (second (eqb (object_of E a) c) (race_pair E X a a) t) refl))

  races_turned : (a b : ℕ) → races a b ≡ races b a
  unfolding races
  races_turned a b =
      cases (race_pair E X a b) (λ t. rw (sym (race_turned E X a b) ∙ t, t, race_object E X a b t))
      (λ t. and_fails (eqb (object_of E a) c) t ∙ sym (and_fails (eqb (object_of E b) c) (sym (race_turned E X a b) ∙ t)))

  pairs_length : (a : ℕ) (l : List ℕ) → length (entries_of E X R a l) ≡ sum_over (λ b. bit (race_pair E X a b)) l
  unfolding entries_of flat_map sum_over
  pairs_length a [] = refl
  pairs_length a (x ∷ l) =
      let h = pairs_length a l in let k = one (race_pair E X a x) in let s = length-append (pair_at E X R a x) (entries_of E X R a l) in omega arith
    where
      one : (b : Bool) → length (cond b (entry E R a x ∷ []) []) ≡ bit b
      one true = refl
      one false = refl

  row_length : (a : ℕ) (l : List ℕ) → length (row_at E X R c a l) ≡ sum_over (weight a) l
  unfolding races
  row_length a l =
      cases (eqb (object_of E a) c) (λ t. here t ∙ pairs_length a l ∙ over_ext (λ b. bit (race_pair E X a b)) (weight a) (λ b. sym (tested b t)) l)
      (λ t. here t ∙ sym (over_none l) ∙ over_ext (λ b. 0) (weight a) (λ b. sym (tested b t)) l)
    where
      here : {t : Bool} → eqb (object_of E a) c ≡ t → length (row_at E X R c a l) ≡ length (cond t (entries_of E X R a l) [])
      here q = ap (λ (t : Bool). length (cond t (entries_of E X R a l) [])) q

      tested : {t : Bool} (b : ℕ) → eqb (object_of E a) c ≡ t → weight a b ≡ bit (t && race_pair E X a b)
      tested b q = ap (λ (t : Bool). bit (t && race_pair E X a b)) q

  cell_length : (o : List ℕ) → length (cell_entries E X R o c) ≡ sum_tails weight o
  unfolding cell_entries flat_map_tails sum_tails
  cell_length [] = refl
  cell_length (x ∷ o) =
      let h = cell_length o in let k = row_length x o in let s = length-append (row_at E X R c x o) (cell_entries E X R o c) in omega arith

-- ---- the theorem

module _ (E : Recording) (acc : Accepted E) (budget : ℕ) where
  abbrev X : Vectors
  X = safe_vectors E budget

  abbrev task_order_lem : List ℕ
  task_order_lem = task_order E.events (tasks E)

  file_once : (e : ℕ) → occurrences e (file_order E) ≡ bit (ltb e (size E))
  file_once = (file_admissible E acc).once

  as_many : length (listed E budget) ≡ length (listed_by_file E budget)
  unfolding listed entries entries_in
  as_many =
      each_length (cell_entries E X (recorded E) task_order_lem) (cells E)
      ∙ sum_ext (λ c. length (cell_entries E X (recorded E) task_order_lem c)) (λ c. length (cell_entries E X (recorded E) (file_order E) c)) (cells E)
      (λ c l.
      cell_length E X (recorded E) c task_order_lem
      ∙ same_tails (weight E X (recorded E) c) (weight_alone E X (recorded E) c) (λ a b. ap bit (races_turned E X (recorded E) c a b)) (size E) task_order_lem (file_order E)
      (order_once E.events (tasks E) (task_inside E acc)) file_once
      ∙ sym (cell_length E X (recorded E) c (file_order E)))
      ∙ sym (each_length (cell_entries E X (recorded E) (file_order E)) (cells E))

  -- an event that stands in the one order stands in the other
  to_file : (e : ℕ) → Memᴰ e task_order_lem → Memᴰ e (file_order E)
  to_file e m = file_in_lem E e (order_of E.events (tasks E) e m)

  to_tasks : (e : ℕ) → Memᴰ e (file_order E) → Memᴰ e task_order_lem
  to_tasks e m = order_in E.events (tasks E) (task_inside E acc) e (file_of_lem E e m)

  moved : (o p : List ℕ) → ((e : ℕ) → Memᴰ e o → Memᴰ e p) → (a b m : ℕ)
      → Among (entries_in E X (recorded E) o) a b m → Among (entries_in E X (recorded E) p) a b m
  moved o p to a b m h =
      let r = among_of E X (recorded E) o a b m h in
      among_in E X (recorded E) p a b m
      (record { first_in = to a r.first_in; second_in = to b r.second_in; cell = r.cell; race = r.race; marked = r.marked })

  recording_pairs : SamePairs E budget
  unfolding listed entries
  recording_pairs =
      record {
        pairs = λ a b m. (moved task_order_lem (file_order E) to_file a b m, moved (file_order E) task_order_lem to_tasks a b m);
        as_many = as_many;
      }

pub same_pairs : SamePairsListed
same_pairs f h q budget = recording_pairs _ (accepted_recording f h q) budget
