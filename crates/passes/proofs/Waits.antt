-- Step 2: the candidates as one look at the records gives them, and a wait raised by them.
-- Assumes nothing.
use Prim.Native.Nat.{ℕ, zero, suc, ◌+◌, ◌*◌, ◌≤◌, ◌<◌, zero-le, max}
use mathlib.Core.Path.{◌≡◌, refl, sym, ap, ap₂, ◌∙◌}
use mathlib.Core.Bool.{Bool, true, false, cond, not, ◌&&◌}
use mathlib.Core.List.{List, [], ◌∷◌, ◌++◌, map, append-nil, append_assoc}
use native.Mathlib.Numerals.{add-one}
use native.Mathlib.Omega.{arith}
use lib.ListN.{length, get_or, set, drop}
use lib.Seq.{set_at, set-set, drop-cons}
use Rattle.model.specs.Numbers.{filter, each, picked, kth_least}
use Rattle.model.specs.declared.Counts.{Counts}
use Rattle.model.specs.declared.Event.{Event}
use Rattle.model.specs.Recording.{post_of, Recording, size, tasks, event, kind_of, object_of, is_on, wait, flag_wait}
use Rattle.model.specs.Vectors.{Vectors, number, ordered}
use Rattle.model.specs.Passes.{events_on, k_of, needed, serving, candidates, kth_among, served, step_one, raised}
use Rattle.model.proofs.Tests.{cases, eq-eqb, ne_eqb}
use Rattle.model.proofs.Least.{kth_zero}
use Rattle.model.proofs.Picked.{picked_few, picked_below}
use Rattle.model.proofs.Climb.{Shaped}
use Rattle.vectors.specs.Rows.{chunks, column, raised_at, raised_to}
use Rattle.vectors.proofs.Chunks.{chunks_shaped, column_chunks}
use Rattle.vectors.proofs.Raised.{raised_to_alike, raised_to_none, chunks_raised}
use Rattle.passes.specs.Steps.{candidate, candidates_on, waited, step_two, raised_event}

-- ---- numbers picked one after another

module _ (p : ℕ → Bool) where
  pub picked_start : picked p 0 ≡ []
  unfolding picked each
  picked_start = refl

  pub picked_hit : (n : ℕ) → p n ≡ true → picked p (n + 1) ≡ picked p n ++ n ∷ []
  unfolding picked each
  picked_hit n t = rw (add-one n, each, t)

  pub picked_miss : (n : ℕ) → p n ≡ false → picked p (n + 1) ≡ picked p n
  unfolding picked each
  picked_miss n t = rw (add-one n, each, t) (append-nil (each (λ e. cond (p e) (e ∷ []) []) n))

-- a number that passes is stored behind those picked before
pub pick_one : (l out : List ℕ) (c a : ℕ) → c ≡ length l → c < length out → (set (l ++ drop c out) c a ≡ (l ++ a ∷ []) ++ drop (c + 1) out)
pick_one l out c a q h = rw (drop-cons out c 0 h, add-one c) (set_at l (get_or out c 0) (drop (suc c) out) a c (sym q) ∙ sym (append_assoc l (a ∷ []) (drop (suc c) out)))

-- ---- as the definitions have it

pub filter-append : (q : ℕ → Bool) (l k : List ℕ) → filter q (l ++ k) ≡ filter q l ++ filter q k
unfolding filter
filter-append q [] k = refl
filter-append q (x ∷ l) k = cases (q x) (λ t. rw (t, filter-append q l k)) (λ t. rw (t, filter-append q l k))

pub filter_picked : (p q : ℕ → Bool) (n : ℕ) → filter q (picked p n) ≡ picked (λ a. p a && q a) n
unfolding picked each filter
filter_picked p q zero = refl
filter_picked p q (suc n) =
    filter-append q (picked p n) (cond (p n) (n ∷ []) []) ∙ ap₂ ◌++◌ (filter_picked p q n) (last (p n))
  where
    last : (b : Bool) → filter q (cond b (n ∷ []) []) ≡ cond (b && q n) (n ∷ []) []
    last true = refl
    last false = refl

module _ (l : List Event) (X : Vectors) (e kind x : ℕ) where
  pub candidates_few : length (candidates_on l X e kind x) ≤ length l
  unfolding candidates_on
  candidates_few = picked_few (candidate l X e kind x) (length l)

  pub candidates_below : (i : ℕ) → i < length (candidates_on l X e kind x) → get_or (candidates_on l X e kind x) i 0 < length l
  unfolding candidates_on
  candidates_below i h = picked_below (candidate l X e kind x) (length l) i h

module _ (E : Recording) (X : Vectors) (e : ℕ) where
  candidates_on_lem : candidates_on E.events X e (serving (kind_of E e)) (object_of E e) ≡ candidates E X e
  unfolding candidates_on candidates events_on
  candidates_on_lem = sym (filter_picked (λ a. is_on (serving (kind_of E e)) (object_of E e) (event E a)) (λ s. not (ordered E.events X e s)) (size E))

  module _ (v : Event) (w : v ≡ event E e) where
    -- a wait of either kind, by the kind that serves it and its k
    pub wait_raised : (Y : Vectors) (kind k : ℕ) → Y ≡ waited E.counts E.events X e kind v.object k → serving v.kind ≡ kind → k ≡ needed E X e
        → Y ≡ step_two E X e
    unfolding waited step_two raised_to served
    wait_raised Y kind k r p q = r ∙ rw (← p, q, w, candidates_on_lem)

    kind : v.kind ≡ kind_of E e
    kind = ap (λ (u : Event). u.kind) w

    -- what each kind needs
    pub needed_wait : v.kind ≡ wait → k_of E X e v.object ≡ needed E X e
    unfolding needed
    needed_wait q = rw (w, eq-eqb (kind_of E e) wait (sym kind ∙ q))

    pub needed_flag : v.kind ≡ flag_wait → post_of E.levels v.object ≡ needed E X e
    unfolding needed
    needed_flag q = rw (w, ne_eqb (kind_of E e) wait (λ r. omega (arith, kind)), eq-eqb (kind_of E e) flag_wait (sym kind ∙ q))

    -- any other event needs none
    pub other_kept : Shaped (size E) (tasks E) X → e < size E → (v.kind ≡ wait → ⊥) → (v.kind ≡ flag_wait → ⊥) → X ≡ step_two E X e
    unfolding step_two served needed kth_among
    other_kept s h d f =
        sym (raised_to_none e _ s h λ t k.
        rw (ne_eqb (kind_of E e) wait (λ q. d (kind ∙ q)), ne_eqb (kind_of E e) flag_wait (λ q. f (kind ∙ q)), kth_zero (map (λ s. number X s t) (candidates E X e))) zero-le)

-- the candidates' numbers in the flat list
pub chunks_waited : (c : Counts) (l : List Event) (v : List ℕ) (e kind x k : ℕ) (cs : List ℕ) → length v ≡ length l * c.tasks → e < length l
    → cs ≡ candidates_on l (chunks (length l) c.tasks v) e kind x
    → chunks (length l) c.tasks (raised_at v (e * c.tasks) (λ t. kth_least k (column c.tasks v t cs)) c.tasks)
    ≡ waited c l (chunks (length l) c.tasks v) e kind x k
unfolding waited kth_among
chunks_waited c l v e kind x k cs h p r =
    let X = chunks (length l) c.tasks v in
    chunks_raised (length l) c.tasks v e (λ t. kth_least k (column c.tasks v t cs)) h p
    ∙ raised_to_alike e _ _ (chunks_shaped (length l) c.tasks v h) p λ t j.
    ap (max (number X e t)) (ap (kth_least k) (column_chunks (length l) c.tasks v t cs h j ∙ ap (map (λ a. number X a t)) r))

-- both steps
pub event_raised : (E : Recording) (X Y Z : Vectors) (e : ℕ) → Y ≡ step_one E X e → Z ≡ step_two E Y e → Z ≡ raised_event E X e
unfolding step_two raised_event raised raised_to step_one
event_raised E X Y Z e q r = r ∙ ap (λ (W : Vectors). step_two E W e) q ∙ set-set X e _ _
