-- Comparing two accepted recordings passes exactly where they are the same work: no record is of a task beyond the tasks, and no
-- start count or post count is given beyond the semaphores or the flags.
-- Assumes nothing.
use Prim.Native.Nat.{ℕ, zero, suc, ◌+◌, ◌*◌, ◌≤◌, ◌<◌, zero-le}
use Rattle.std.specs.Prelude.{Ok}
use mathlib.Core.Path.{◌≡◌, refl, sym, ap, ap₂, subst, ◌∙◌}
use mathlib.Core.Bool.{Bool, true, false, cond, ◌&&◌}
use mathlib.Core.Logic.{◌↔◌}
use mathlib.Core.List.Memᴰ
use mathlib.Core.List.{List, [], ◌∷◌, Memᴰ, map}
use native.Mathlib.Nat.{le_refl, not-suc-le-zero}
use native.Mathlib.Omega.{arith}
use lib.Dec.{ltb, eqb}
use lib.ListN.{length, get_or, drop, length-take, length-drop, get_or-eq_default}
use Rattle.model.specs.declared.Event.{Event}
use Rattle.model.specs.Numbers.{picked}
use Rattle.model.specs.Recording.{Recording, size, tasks, event, event_in, task_of, of_task, semaphores_of, flags_of, Accepted}
use Rattle.model.specs.File.{trailer_of, start_count, level_count, level_bytes, recording_of}
use Rattle.model.specs.Pairs.{own_events}
use Rattle.model.specs.Together.{same_counts, same_levels, own_records, same_record, records_alike, tasks_alike, work_alike}
use Rattle.model.specs.OneJob.{SameWork}
use Rattle.model.proofs.Tests.{cases, both, first, second, all_three, last_or_lower, ltb-true, ltb-false, eqb-true, eq-eqb, ne_eqb}
use Rattle.model.proofs.Checks.{failed_passed, unless_passed, then_passed}
use Rattle.model.proofs.Each.{each_none}
use Rattle.model.proofs.Picked.{picked_mem}
use Rattle.model.proofs.Accept.{task_inside}

-- what is the same below n, and beyond it nothing in either
everywhere : {A : Type 0} (f g : ℕ → A) (n : ℕ) {d : A}
    → ((i : ℕ) → i < n → f i ≡ g i) → ((i : ℕ) → n ≤ i → f i ≡ d) → ((i : ℕ) → n ≤ i → g i ≡ d) → (i : ℕ) → f i ≡ g i
everywhere f g n h p q i =
    cases (ltb i n) (λ t. h i (ltb-true i n t)) (λ t. p i (ltb-false i n t) ∙ sym (q i (ltb-false i n t)))

-- ---- start counts and post counts

levels_same : (x y : List ℕ) (n : ℕ) → same_levels x y n ≡ true → (i : ℕ) → i < n → get_or x i 0 ≡ get_or y i 0
unfolding same_levels
levels_same x y zero h i l = absurd (not-suc-le-zero l)
levels_same x y (suc n) h i l =
    last_or_lower l (λ e. subst (λ (j : ℕ). get_or x j 0 ≡ get_or y j 0) (sym e) (eqb-true _ _ (second (same_levels x y n) _ h)))
    (λ k. levels_same x y n (first (same_levels x y n) _ h) i k)

levels_pass : (x y : List ℕ) → ((i : ℕ) → get_or x i 0 ≡ get_or y i 0) → (n : ℕ) → same_levels x y n ≡ true
unfolding same_levels
levels_pass x y h zero = refl
levels_pass x y h (suc n) = both (levels_pass x y h n) (eq-eqb _ _ (h n))

-- a file gives no more start bytes than semaphores, and no more post bytes than flags
module _ (f : List ℕ) where
  few_starts : length (recording_of f).levels.starts ≤ semaphores_of (trailer_of f).counts
  unfolding recording_of start_count
  few_starts =
      let c = (trailer_of f).counts in
      let n = length-take (start_count c) (level_bytes f (trailer_of f)) in
      let k = few (eqb c.edition 1) (semaphores_of c) in omega arith
    where
      few : (b : Bool) (n : ℕ) → cond b 0 n ≤ n
      few true n = zero-le
      few false n = le_refl n

  few_posts : length (recording_of f).levels.posts ≤ flags_of (trailer_of f).counts
  unfolding recording_of level_bytes level_count
  few_posts =
      let r = trailer_of f in
      let c = r.counts in
      let n = length-drop (start_count c) (level_bytes f r) in
      let k = length-take (level_count c) (drop (r.start + 4 * r.records) f) in omega arith

-- so where these are as many, they are the same everywhere
all_same : (x y : List ℕ) (n m : ℕ) → n ≡ m → length x ≤ n → length y ≤ m → same_levels x y n ≡ true → (i : ℕ) → get_or x i 0 ≡ get_or y i 0
all_same x y n m q few other h =
    everywhere (λ i. get_or x i 0) (λ i. get_or y i 0) n (levels_same x y n h) (λ i l. get_or-eq_default x 0 (omega arith))
    (λ i l. get_or-eq_default y 0 (omega arith))

-- ---- records

-- the records of a task are of it
own_task : (l : List Event) (t : ℕ) (v : Event) → Memᴰ v (own_records l t) → v.task ≡ t
own_task l t v h =
    let (a, m, q) = Memᴰ.of_map (event_in l) (own_events l t) h in
    ap (λ (r : Event). r.task) (sym q) ∙ eqb-true (event_in l a).task t (picked_mem (λ e. of_task t (event_in l e)) a (length l) m).1

-- a task beyond the tasks has none
no_records : (E : Recording) → Accepted E → (t : ℕ) → tasks E ≤ t → own_records E.events t ≡ []
unfolding picked
no_records E acc t h =
    ap (map (event E))
    (each_none (λ e. cond (of_task t (event E e)) (e ∷ []) []) (size E)
    (λ e l. let k = task_inside E acc e l in rw (ne_eqb (task_of E e) t (λ q. omega arith))))

-- records of one task whose kinds and objects are the same
records_same : (t p : ℕ) (l m : List Event) → ((v : Event) → Memᴰ v l → v.task ≡ t) → ((v : Event) → Memᴰ v m → v.task ≡ t)
    → records_alike t p l m ≡ Ok tt → l ≡ m
unfolding records_alike
records_same t p [] [] h k q = refl
records_same t p [] (w ∷ m) h k q = failed_passed _ q
records_same t p (v ∷ l) [] h k q = failed_passed _ q
records_same t p (v ∷ l) (w ∷ m) h k q =
    let (s, r) = unless_passed (same_record v w) _ _ q in
    ap₂ (λ (u : Event) (n : List Event). u ∷ n)
    (one_event v w (h v (Memᴰ.head refl) ∙ sym (k w (Memᴰ.head refl))) (eqb-true _ _ (first (eqb v.kind w.kind) _ s))
    (eqb-true _ _ (second (eqb v.kind w.kind) _ s)))
    (records_same t (suc p) l m (λ u n. h u (Memᴰ.tail n)) (λ u n. k u (Memᴰ.tail n)) r)
  where
    one_event : (v w : Event) → v.task ≡ w.task → v.kind ≡ w.kind → v.object ≡ w.object → v ≡ w
    one_event v w a b c = λ i. record { task = a i; kind = b i; object = c i }

records_pass : (t p : ℕ) (l : List Event) → records_alike t p l l ≡ Ok tt
unfolding records_alike
records_pass t p [] = refl
records_pass t p (v ∷ l) = rw (eq-eqb v.kind v.kind refl, eq-eqb v.object v.object refl) (records_pass t (suc p) l)

-- task by task
module _ (l m : List Event) where
  tasks_same : (n : ℕ) → tasks_alike l m n ≡ Ok tt → (t : ℕ) → t < n → own_records l t ≡ own_records m t
  unfolding tasks_alike
  tasks_same zero q t h = absurd (not-suc-le-zero h)
  tasks_same (suc n) q t h =
      let (lower, last) = then_passed (tasks_alike l m n) _ q in
      let here = records_same n _ (own_records l n) (own_records m n) (own_task l n) (own_task m n) last in
      last_or_lower h (λ e. subst (λ (i : ℕ). own_records l i ≡ own_records m i) (sym e) here) (λ k. tasks_same n lower t k)

  tasks_pass : ((t : ℕ) → own_records l t ≡ own_records m t) → (n : ℕ) → tasks_alike l m n ≡ Ok tt
  unfolding tasks_alike
  tasks_pass h zero = refl
  tasks_pass h (suc n) = rw (tasks_pass h n, h n) (records_pass n _ (own_records m n))

-- ---- the whole

same_work : (f g : List ℕ) → let E = recording_of f in
    let F = recording_of g in Accepted E → Accepted F → work_alike E F ≡ Ok tt → SameWork E F
unfolding work_alike same_counts recording_of
same_work f g accE accF q =
    let E = recording_of f in
    let F = recording_of g in
    let (c, r) = unless_passed (same_counts E.counts F.counts) _ _ q in
    let (s, k) = unless_passed (same_levels E.levels.starts F.levels.starts (semaphores_of E.counts)) _ _ r in
    let (p, m) = unless_passed (same_levels E.levels.posts F.levels.posts (flags_of E.counts)) _ _ k in
    let same = eqb E.counts.tasks F.counts.tasks && eqb (semaphores_of E.counts) (semaphores_of F.counts) && eqb (flags_of E.counts) (flags_of F.counts) in
    let (t, n, b) = all_three _ _ _ (first same _ c) in
    let i = eqb-true _ _ t in
    let j = eqb-true _ _ n in
    let o = eqb-true _ _ b in
    record {
      tasks = i;
      semaphores = j;
      flags = o;
      cells = eqb-true _ _ (second same _ c);
      starts = all_same E.levels.starts F.levels.starts (semaphores_of E.counts) (semaphores_of F.counts) j (few_starts f) (few_starts g) s;
      posts = all_same E.levels.posts F.levels.posts (flags_of E.counts) (flags_of F.counts) o (few_posts f) (few_posts g) p;
      records =
          everywhere (own_records E.events) (own_records F.events) (tasks E) (tasks_same E.events F.events (tasks E) m)
          (no_records E accE) (λ t h. no_records F accF t (omega arith));
    }

work_passes : (E F : Recording) → SameWork E F → work_alike E F ≡ Ok tt
unfolding work_alike same_counts
work_passes E F w =
    let starts = levels_pass E.levels.starts F.levels.starts w.starts (semaphores_of E.counts) in
    let posts = levels_pass E.levels.posts F.levels.posts w.posts (flags_of E.counts) in
    rw (eq-eqb _ _ w.tasks, eq-eqb _ _ w.semaphores, eq-eqb _ _ w.flags, eq-eqb _ _ w.cells, starts, posts)
    (tasks_pass E.events F.events w.records (tasks E))

pub work_alike_lem : (f g : List ℕ) → let E = recording_of f in
    let F = recording_of g in Accepted E → Accepted F → (work_alike E F ≡ Ok tt) ↔ SameWork E F
work_alike_lem f g accE accF = (same_work f g accE accF, work_passes (recording_of f) (recording_of g))
