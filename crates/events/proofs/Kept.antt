-- Laws of what is kept: one more place written, the sources, a found event as a number and back, and the forks. Assumes nothing.
use mathlib.Core.Path.{◌≡◌, refl, sym, ap, ap₂, ◌∙◌}
use Rattle.std.specs.Prelude.{Option, Some, None}
use mathlib.Core.Bool.{Bool, true, false, ◌&&◌}
use mathlib.Core.List.{List, ◌++◌}
use Prim.Native.Nat.{ℕ, zero, suc, ◌+◌, ◌*◌, ◌/◌, ◌%◌, ◌≤◌, ◌<◌, zero-le}
use native.Mathlib.Omega.{arith}
use lib.Dec.{ltb, eqb}
use lib.ListN.{length, get_or, set, replicate, length-set, length-replicate, get_or-replicate, get_or-eq_default}
use lib.Seq.{get_or-set_same, get_or-set_other}
use Rattle.model.specs.declared.Event.{Event}
use Rattle.model.specs.Numbers.{found, last_of}
use Rattle.model.specs.Recording.{event_in, of_task, is_fork, fork, join}
use Rattle.model.specs.File.{events_of}
use Rattle.model.specs.Passes.{previous, fork_of, sources, first_found}
use Rattle.model.proofs.Tests.{cases, clash, fails, both, first, second, and_fails, compared, tests, eqb-true, ltb-true, ltb-false, lt-ltb, le-ltb, eq-eqb, ne_eqb}
use Rattle.model.proofs.Sources.{last_some}
use Rattle.events.specs.Kept.{KeptTasks, Below, found_below, ForksTo, of_join, source_of}
use Rattle.events.proofs.Laws.{events_length, last_none, last_here, last_lower}

-- what is written at e holds there, and elsewhere what held
set_keeps : (P : ℕ → ℕ → Type 0) (kept : List ℕ) (e x : ℕ) → e < length kept → P e x → (i : ℕ) → ((i ≡ e → ⊥) → P i (get_or kept i 0)) → P i (get_or (set kept e x) i 0)
set_keeps P kept e x h here i other =
    cases (eqb i e)
    (λ t. let q : i ≡ e = omega tests in rw (q, get_or-set_same kept e x 0 h) here)
    (λ t. let o : i ≡ e → ⊥ = λ q. omega tests in rw (get_or-set_other kept e i x 0 o) (other o))

-- what holds of the places below e holds of one more, once that is written
pub kept_next : (P : ℕ → ℕ → Type 0) (kept : List ℕ) (e x : ℕ) → e < length kept → ((i : ℕ) → i < e → P i (get_or kept i 0)) → P e x
    → (i : ℕ) → i < e + 1 → P i (get_or (set kept e x) i 0)
kept_next P kept e x h below here i l = set_keeps P kept e x h here i (λ o. below i (compared i e (λ m. m) (λ q. absurd (o q)) (λ m. absurd (omega arith))))

-- what is written at the three places of e holds there, and elsewhere what held
pub three_kept : (P : ℕ → ℕ → Type 0) (kept : List ℕ) (e x y z : ℕ) → 3 * e + 2 < length kept → P (3 * e) x → P (3 * e + 1) y → P (3 * e + 2) z
    → (i : ℕ) → ((i < 3 * (e + 1) → i < 3 * e) → P i (get_or kept i 0)) → P i (get_or (set (set (set kept (3 * e) x) (3 * e + 1) y) (3 * e + 2) z) i 0)
three_kept P kept e x y z h a b c i other =
    let k = set kept (3 * e) x in
    let m = set k (3 * e + 1) y in
    let u = length-set kept (3 * e) x in
    let w = length-set k (3 * e + 1) y in
    set_keeps P m (3 * e + 2) z (omega (arith, u, w)) c i
    (λ o. set_keeps P k (3 * e + 1) y (omega (arith, u)) b i (λ p. set_keeps P kept (3 * e) x (omega arith) a i (λ q. other (λ l. omega arith))))

-- at the start no number is above n
pub low_start : (m n i : ℕ) → get_or (replicate m 0) i 0 ≤ n
low_start m n i =
    cases (ltb i m)
    (λ t. rw (get_or-replicate {A = ℕ} m i 0 0 (ltb-true i m t)) zero-le)
    (λ t. rw (get_or-eq_default {A = ℕ} (replicate m 0) 0 {n = i} (rw (length-replicate {A = ℕ} m 0) (ltb-false i m t))) zero-le)

-- ---- searches

last_below : (p : ℕ → Bool) (n : ℕ) → Below n (last_of p n)
last_below p n = go (last_of p n) refl
  where
    go : (m : Option ℕ) → last_of p n ≡ m → Below n m
    go (Some x) q = (last_some p n x q).inside
    go None q = tt

-- found among all records
pub all_below : (s : List ℕ) (p : ℕ → Bool) (f : Option ℕ) → f ≡ last_of p (length (events_of s)) → Below (length s / 4) f
all_below s p f q = rw (q, ← events_length s) (last_below p (length (events_of s)))

pub fork_found : (s : List ℕ) (t : ℕ) (f : Option ℕ) → f ≡ last_of (λ a. is_fork t (event_in (events_of s) a)) (length s / 4)
    → (f ≡ fork_of (events_of s) t) × Below (length s / 4) f
fork_found s t f q =
    let all : f ≡ fork_of (events_of s) t = q ∙ rw (events_length s) in
    (all, all_below s (λ a. is_fork t (event_in (events_of s) a)) f all)

-- by another test that says the same
last_by : (p q : ℕ → Bool) (n : ℕ) → ((a : ℕ) → a < n → p a ≡ q a) → last_of p n ≡ last_of q n
unfolding last_of
last_by p q zero h = refl
last_by p q (suc n) h = ap₂ (λ (b : Bool) (f : Option ℕ). elim b [ true ↦ Some n | false ↦ f ]) (h n (omega arith)) (last_by p q n (λ a l. h a (omega arith)))

-- the event before e is found among the tasks that are kept
pub task_searched : (l : List Event) (tasks : List ℕ) (e : ℕ) → KeptTasks l tasks → e < length l
    → last_of (λ a. eqb (get_or tasks a 0) (get_or tasks e 0)) e ≡ previous l e
task_searched l tasks e k h =
    last_by (λ a. eqb (get_or tasks a 0) (get_or tasks e 0)) (λ a. of_task (event_in l e).task (event_in l a)) e (λ a i. ap₂ eqb (k a (omega arith)) (k e h))

-- the event before is found, or it is not
pub before_at : (l : List Event) (e a : ℕ) (f g : Option ℕ) → f ≡ previous l e → f ≡ Some a → (Some a ≡ first_found (previous l e) g) × (a < e)
before_at l e a f g p q =
    let r : previous l e ≡ Some a = sym p ∙ q in
    (sym (ap (λ (m : Option ℕ). first_found m g) r), (last_some (λ b. of_task (event_in l e).task (event_in l b)) e a r).inside)

pub before_none : (l : List Event) (e : ℕ) (f g : Option ℕ) → f ≡ previous l e → f ≡ None → g ≡ first_found (previous l e) g
before_none l e f g p q = sym (ap (λ (m : Option ℕ). first_found m g) (sym p ∙ q))

-- ---- sources

-- the event e, seen as v, is a join
module _ (l : List Event) (e : ℕ) (v : Event) (f : Option ℕ) (q : v ≡ event_in l e) where
  pub of_join_lem : v.kind ≡ join → f ≡ of_join l e f
  of_join_lem h = rw (eq-eqb (event_in l e).kind join (sym (ap (λ (w : Event). w.kind) q) ∙ h))

-- a place of the sources tells the event and which of its three it is
pub place_of : (i e j : ℕ) → i ≡ 3 * e + j → j < 3 → (i / 3 ≡ e) × (i % 3 ≡ j)
place_of i e j q h = (omega arith, omega arith)

-- source j of e stands at its place
pub source_at : (l : List Event) (e j i : ℕ) (f g : Option ℕ) → i ≡ 3 * e + j → j < 3 → f ≡ g → g ≡ source_of l e j → f ≡ source_of l (i / 3) (i % 3)
source_at l e j i f g p h q r = let (a, b) = place_of i e j p h in rw (a, b) (q ∙ r)

-- the sources of e are these three
pub three_sources : (l : List Event) (e : ℕ) → sources l e ≡ found (source_of l e 0) ++ (found (source_of l e 1) ++ found (source_of l e 2))
unfolding sources source_of
three_sources l e = cases (eqb (event_in l e).kind join) (λ t. rw t) (λ t. rw t)

-- ---- a found event as a number

pub at_number : (n a : ℕ) → a < n → Some a ≡ found_below n a
at_number n a h = rw (lt-ltb a n h)

pub no_number : (n a : ℕ) → n ≤ a → None ≡ found_below n a
no_number n a h = rw (le-ltb a n h)

-- ---- forks

pub forks_start : (l : List Event) (n : ℕ) → length l ≡ n → ForksTo l 0 (replicate 256 n)
forks_start l n q t h = rw (get_or-replicate {A = ℕ} 256 t n 0 h) (sym (no_number (length l) n (omega arith)) ∙ last_none _ 0 refl)

-- the event e, seen as v
module _ (l : List Event) (e : ℕ) (forks : List ℕ) (f : ForksTo l e forks) (v : Event) (q : v ≡ event_in l e) where
  other_fork : (t : ℕ) → t < 256 → is_fork t v ≡ false → found_below (length l) (get_or forks t 0) ≡ last_of (λ a. is_fork t (event_in l a)) (e + 1)
  other_fork t h u = f t h ∙ last_lower (λ a. is_fork t (event_in l a)) (e + 1) e (is_fork t v) refl (ap (is_fork t) q) u

  -- it is no fork of a task that is a byte, or it is one, and written
  pub forks_same : (eqb v.kind fork && ltb v.object 256) ≡ false → ForksTo l (e + 1) forks
  forks_same n t h =
      other_fork t h
      (fails (is_fork t v) (λ u.
      let o = eqb-true v.object t (second (eqb v.kind fork) (eqb v.object t) u) in
      clash (both (first (eqb v.kind fork) (eqb v.object t) u) (lt-ltb v.object 256 (omega arith))) n))

  pub forks_next : length forks ≡ 256 → e < length l → (eqb v.kind fork && ltb v.object 256) ≡ true → ForksTo l (e + 1) (set forks v.object e)
  forks_next w k n t h =
      let x = v.object in
      let b = ltb-true x 256 (second (eqb v.kind fork) (ltb x 256) n) in
      let here = both (first (eqb v.kind fork) (ltb x 256) n) (eq-eqb x x refl) in
      set_keeps (λ i a. i < 256 → found_below (length l) a ≡ last_of (λ c. is_fork i (event_in l c)) (e + 1)) forks x e (omega arith)
      (λ _. sym (at_number (length l) e k) ∙ last_here (λ a. is_fork x (event_in l a)) (e + 1) e (is_fork x v) refl (ap (is_fork x) q) here)
      t (λ o m. other_fork t m (and_fails (eqb v.kind fork) (ne_eqb x t (λ r. o (sym r)))))
      h
