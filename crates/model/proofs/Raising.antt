-- What the raising of an event reads: its own vector, those of its sources, and for a wait those of the signals on its semaphore or of
-- the posts on its flag. Where these are alike, so is what it is raised to.
-- Assumes nothing.
use Prim.Native.Nat.{ℕ, zero, suc, ◌-◌, ◌<◌, max}
use mathlib.Core.Path.{◌≡◌, refl, sym, ap, ap₂, subst, ◌∙◌}
use mathlib.Core.Logic.{inl, inr}
use mathlib.Core.Bool.{Bool, true, false, not, ◌&&◌}
use mathlib.Core.List.{List, [], ◌∷◌, map, Memᴰ}
use native.Mathlib.Omega.{arith}
use lib.Dec.{leb, eqb}
use lib.ListN.{length, get_or, set, length-set}
use lib.Seq.{get_or-set_same, get_or-set_other}
use Rattle.model.specs.Numbers.{count, filter, list_from, largest, kth_least}
use Rattle.model.specs.Recording.{start_of, Recording, tasks, event_in, kind_of, object_of, wait, flag_wait}
use Rattle.model.specs.Vectors.{position, Vectors, number, ordered}
use Rattle.model.specs.Passes.{sources, gathered, step_one, events_on, waits_on, k_where, needed, serving, candidates, kth_among, served, raised}
use Rattle.model.specs.Raising.{Waiting, Reads, Alike, ReadsOnly}
use Rattle.model.proofs.Tests.{cases, eqb-true, eqb-false}
use Rattle.model.proofs.Least.{largest_ext, kth_zero}

-- lists of what is alike
from_alike : {A : Type 0} (f g : ℕ → A) (i n : ℕ) → ((t : ℕ) → f t ≡ g t) → list_from f i n ≡ list_from g i n
unfolding list_from
from_alike f g i zero h = refl
from_alike f g i (suc n) h = ap₂ ◌∷◌ (h i) (from_alike f g (suc i) n h)

-- ---- step 1

gathered_alike : (E : Recording) (X Y : Vectors) (from : List ℕ) (e : ℕ) → ((a : ℕ) → Memᴰ a (e ∷ from) → Alike X Y a)
    → gathered E X from e ≡ gathered E Y from e
unfolding gathered
gathered_alike E X Y from e h =
    from_alike (λ t. largest (λ s. number X s t) (e ∷ from)) (λ t. largest (λ s. number Y s t) (e ∷ from)) 0 (tasks E)
    (λ t. largest_ext (λ s. number X s t) (λ s. number Y s t) (e ∷ from) (λ a m. ap (λ (r : List ℕ). get_or r t 0) (h a m)))

-- after step 1, for e and for any event whose vectors were alike
set_alike : (X Y : Vectors) (e : ℕ) (r s : List ℕ) → e < length X → e < length Y → r ≡ s → (a : ℕ) → Alike X Y a
    → Alike (set X e r) (set Y e s) a
set_alike X Y e r s k l h a q =
    cases (eqb a e) (λ t. rw (eqb-true a e t) (get_or-set_same X e r [] k ∙ h ∙ sym (get_or-set_same Y e s [] l)))
    (λ t. get_or-set_other X e a r [] (eqb-false a e t) ∙ q ∙ sym (get_or-set_other Y e a s [] (eqb-false a e t)))

-- ---- step 2

module _ (E : Recording) (X Y : Vectors) (e : ℕ) where
  -- k reads the vector of e alone
  needed_alike : Alike X Y e → needed E X e ≡ needed E Y e
  unfolding needed ordered
  needed_alike h = go (eqb (kind_of E e) wait)
    where
      go : (b : Bool) → k_where E X e b ≡ k_where E Y e b
      go true =
          ap
          (λ (r : List ℕ).
          suc (count (λ w. not (eqb w e) && leb (position E.events w) (get_or r (event_in E.events w).task 0)) (waits_on E.events (object_of E e)))
          - start_of E.levels (object_of E e))
          h
      go false = refl

  -- whether e is ordered before s reads the vector of s alone
  ordered_alike : (s : ℕ) → Alike X Y s → ordered E.events X e s ≡ ordered E.events Y e s
  unfolding ordered
  ordered_alike s h = ap (λ (r : List ℕ). not (eqb e s) && leb (position E.events e) (get_or r (event_in E.events e).task 0)) h

  -- the candidates' numbers
  numbers_alike : (t : ℕ) (l : List ℕ) → ((s : ℕ) → Memᴰ s l → Alike X Y s)
      → map (λ s. number X s t) (filter (λ s. not (ordered E.events X e s)) l) ≡ map (λ s. number Y s t) (filter (λ s. not (ordered E.events Y e s)) l)
  unfolding filter
  numbers_alike t [] h = refl
  numbers_alike t (x ∷ l) h =
      let o = ordered_alike x (h x (Memᴰ.head refl)) in
      let n = ap (λ (r : List ℕ). get_or r t 0) (h x (Memᴰ.head refl)) in
      let ih = numbers_alike t l (λ s m. h s (Memᴰ.tail m)) in
      cases (ordered E.events Y e x) (λ q. rw (o ∙ q, q) ih) (λ q. rw (o ∙ q, q) (ap₂ ◌∷◌ n ih))

  -- what is no wait needs none
  none_needed : (Z : Vectors) → eqb (kind_of E e) wait ≡ false → eqb (kind_of E e) flag_wait ≡ false → needed E Z e ≡ 0
  unfolding needed
  none_needed Z p q = rw (p, q)

  -- the k-th least
  served_alike : (t : ℕ) → Alike X Y e
      → (Waiting E e → (s : ℕ) → Memᴰ s (events_on E.events (serving (kind_of E e)) (object_of E e)) → Alike X Y s)
      → served E X e t ≡ served E Y e t
  unfolding served candidates kth_among
  served_alike t own h =
      cases (eqb (kind_of E e) wait) (λ p. waiting (inl (eqb-true (kind_of E e) wait p)))
      (λ p. cases (eqb (kind_of E e) flag_wait) (λ q. waiting (inr (eqb-true (kind_of E e) flag_wait q)))
      (λ q. rw (none_needed X p q, none_needed Y p q) (kth_zero _ ∙ sym (kth_zero _))))
    where
      waiting : Waiting E e → served E X e t ≡ served E Y e t
      waiting w = ap₂ kth_least (needed_alike own) (numbers_alike t (events_on E.events (serving (kind_of E e)) (object_of E e)) (h w))

-- ---- both steps

raised_alike : (E : Recording) (X Y : Vectors) (e : ℕ) → e < length X → e < length Y → ((a : ℕ) → Reads E e a → Alike X Y a)
    → raised E X e ≡ raised E Y e
unfolding raised step_one
raised_alike E X Y e k l h =
    let g = gathered_alike E X Y (sources E.events e) e (λ a m. h a (inl m)) in
    let Z = step_one E X e in
    let W = step_one E Y e in
    let step = set_alike X Y e (gathered E X (sources E.events e) e) (gathered E Y (sources E.events e) e) k l g in
    let own = step e (h e (inl (Memᴰ.head refl))) in
    from_alike (λ t. max (number Z e t) (served E Z e t)) (λ t. max (number W e t) (served E W e t)) 0 (tasks E)
    (λ t. ap₂ max (ap (λ (r : List ℕ). get_or r t 0) own) (served_alike E Z W e t own (λ q s m. step s (h s (inr (q, m))))))

pub reads_only : ReadsOnly
reads_only =
    record {
      alike = raised_alike;
      again = λ E X Y e k l h q. sym (raised_alike E X Y e k l h) ∙ q ∙ h e (inl (Memᴰ.head refl));
    }

-- a vector that is not read may change
pub raised_apart : (E : Recording) (X : Vectors) (e j : ℕ) (r : List ℕ) → e < length X → (Reads E e j → ⊥) → raised E (set X j r) e ≡ raised E X e
raised_apart E X e j r h d =
    raised_alike E (set X j r) X e (let n = length-set X j r in omega arith) h (λ a m. get_or-set_other X j a r [] (λ q. d (subst (Reads E e) q m)))
