-- The events that an event takes its vector from, and that they precede it in every admissible order.
-- Assumes nothing.
use Prim.Native.Nat.{ℕ, zero, suc, ◌≤◌, ◌<◌}
use Rattle.std.specs.Prelude.{Option, Some, None}
use mathlib.Core.Path.{◌≡◌, refl, sym, ap, subst, ◌∙◌}
use mathlib.Core.Logic.{◌⊎◌, inl, inr}
use mathlib.Core.Bool.{Bool, true, false}
use mathlib.Core.List.Memᴰ
use mathlib.Core.List.{List, ◌++◌, Memᴰ}
use native.Mathlib.Nat.{not-suc-le-zero}
use native.Mathlib.Omega.{arith}
use lib.Dec.{ltb, eqb}
use Rattle.model.specs.Numbers.{last_of, found}
use Rattle.model.specs.Recording.{event, of_task, is_fork, Recording, size, task_of, kind_of, object_of, join}
use Rattle.model.specs.Orders.{Precedes, Admissible}
use Rattle.model.specs.Passes.{previous, fork_of, last_event, first_found, before_or_fork, join_sources, sources}
use Rattle.model.proofs.Tests.{cases, clash, both, last_or_lower, eqb-true, eq-eqb, ltb-true, ltb-false}
use Rattle.model.proofs.Rules.{fork_first, join_last, join_forked, one_fork}

-- ---- the last number that passes a test

-- x is the last of the numbers below n that pass
pub record Last (p : ℕ → Bool) (n x : ℕ) : Type 0 where
  pub inside : x < n
  pub passes : p x ≡ true
  pub after : (y : ℕ) → x < y → y < n → p y ≡ false

pub last_some : (p : ℕ → Bool) (n x : ℕ) → last_of p n ≡ Some x → Last p n x
unfolding last_of
last_some p zero x h = let z : ◌≡◌ {A = ℕ} 0 1 = cc in absurd (omega arith)
last_some p (suc n) x h = go (p n) refl h (λ k. last_some p n x k)
  where
    go : (b : Bool) → p n ≡ b → elim b [ true ↦ Some n | false ↦ last_of p n ] ≡ Some x → (last_of p n ≡ Some x → Last p n x) → Last p (suc n) x
    go true t h ih =
        let e : n ≡ x = cc in
        record { inside = omega arith; passes = ap p (sym e) ∙ t; after = λ y k l. absurd (omega arith) }
    go false t h ih =
        let r = ih h in
        record { inside = omega arith; passes = r.passes; after = λ y k l. last_or_lower l (λ e. ap p e ∙ t) (λ m. r.after y k m) }

pub last_none : (p : ℕ → Bool) (n : ℕ) → last_of p n ≡ None → (y : ℕ) → y < n → p y ≡ false
unfolding last_of
last_none p zero h y l = absurd (not-suc-le-zero l)
last_none p (suc n) h y l = go (p n) refl h (λ k. last_none p n k y)
  where
    go : (b : Bool) → p n ≡ b → ◌≡◌ {A = Option ℕ} (elim b [ true ↦ Some n | false ↦ last_of p n ]) None → (last_of p n ≡ None → y < n → p y ≡ false) → p y ≡ false
    go true t h ih = let z : ◌≡◌ {A = ℕ} 0 1 = cc in absurd (omega arith)
    go false t h ih = last_or_lower l (λ e. ap p e ∙ t) (λ m. ih h m)

-- where a number passes, a last one is found
pub last_found : (p : ℕ → Bool) (n y : ℕ) → y < n → p y ≡ true → (x : ℕ) × (last_of p n ≡ Some x) × Last p n x × (y ≤ x)
last_found p n y l t = go (last_of p n) refl
  where
    go : (m : Option ℕ) → last_of p n ≡ m → (x : ℕ) × (last_of p n ≡ Some x) × Last p n x × (y ≤ x)
    go None h = clash t (last_none p n h y l)
    go (Some x) h =
        let k = last_some p n x h in
        (x, h, k, cases (ltb x y) (λ q. clash t (k.after y (ltb-true x y q) l)) (λ q. ltb-false x y q))

-- ---- the sources of an event

pub data Source (E : Recording) (e s : ℕ) : Type 0 where
  before : s < e → task_of E s ≡ task_of E e → Source E e s
  forked : s < size E → is_fork (task_of E e) (event E s) ≡ true → Source E e s
  join_fork : eqb (kind_of E e) join ≡ true → s < size E → is_fork (object_of E e) (event E s) ≡ true → Source E e s
  join_end : eqb (kind_of E e) join ≡ true → s < size E → task_of E s ≡ object_of E e → Source E e s

pub of_found : {s : ℕ} (m : Option ℕ) → Memᴰ s (found m) → m ≡ Some s
of_found None h = absurd (Memᴰ.not-nil h)
of_found (Some x) h = ap (λ (y : ℕ). Some y) (sym (Memᴰ.eq_of_singleton h))

pub in_found : {s : ℕ} {m : Option ℕ} → m ≡ Some s → Memᴰ s (found m)
in_found {s} {m} q = subst (λ (m : Option ℕ). Memᴰ s (found m)) (sym q) (Memᴰ.head refl)

pub source_of : (E : Recording) (e s : ℕ) → Memᴰ s (sources E.events e) → Source E e s
unfolding sources
source_of E e s h = either (Memᴰ.append_cases (found (before_or_fork E.events e)) h)
  where
    own : (m : Option ℕ) → previous E.events e ≡ m → Memᴰ s (found (first_found m (fork_of E.events (task_of E e)))) → Source E e s
    own None q k = let r = last_some (λ a. is_fork (task_of E e) (event E a)) (size E) s (of_found (fork_of E.events (task_of E e)) k) in forked r.inside r.passes
    own (Some x) q k =
        let r = last_some (λ a. of_task (task_of E e) (event E a)) e s (q ∙ of_found (Some x) k) in
        before r.inside (eqb-true (task_of E s) (task_of E e) r.passes)

    joined : (b : Bool) → eqb (kind_of E e) join ≡ b → Memᴰ s (join_sources E.events e b) → Source E e s
    joined false q k = absurd (Memᴰ.not-nil k)
    joined true q k = which (Memᴰ.append_cases (found (fork_of E.events (object_of E e))) k)
      where
        which : Memᴰ s (found (fork_of E.events (object_of E e))) ⊎ Memᴰ s (found (last_event E.events (object_of E e))) → Source E e s
        which (inl k) = let r = last_some (λ a. is_fork (object_of E e) (event E a)) (size E) s (of_found (fork_of E.events (object_of E e)) k) in join_fork q r.inside r.passes
        which (inr k) =
            let r = last_some (λ a. of_task (object_of E e) (event E a)) (size E) s (of_found (last_event E.events (object_of E e)) k) in
            join_end q r.inside (eqb-true (task_of E s) (object_of E e) r.passes)

    either : Memᴰ s (found (before_or_fork E.events e)) ⊎ Memᴰ s (join_sources E.events e (eqb (kind_of E e) join)) → Source E e s
    either (inl k) = own (previous E.events e) refl k
    either (inr k) = joined (eqb (kind_of E e) join) refl k

-- a source precedes its event in every admissible order
pub source_precedes : (E : Recording) (o : List ℕ) → Admissible E o → (e s : ℕ) → e < size E → Source E e s → (s < size E) × Precedes o s e
source_precedes E o adm e s l (before k t) = (omega arith, adm.own s e k l t)
source_precedes E o adm e s l (forked k t) = (k, fork_first E o adm s e k l t)
source_precedes E o adm e s l (join_fork j k t) =
    let (f, m, q, p) = join_forked E o adm e l j in
    (k, subst (λ (x : ℕ). Precedes o x e) (one_fork E o adm (object_of E e) f s m k q t) p)
source_precedes E o adm e s l (join_end j k t) = (k, join_last E o adm e s l k (both j (eq-eqb _ _ (sym t))))

-- ---- what the sources hold

pub has_previous : (E : Recording) (e s : ℕ) → previous E.events e ≡ Some s → Memᴰ s (sources E.events e)
unfolding sources
has_previous E e s q = Memᴰ.append_left _ (subst (λ (m : Option ℕ). Memᴰ s (found (first_found m (fork_of E.events (task_of E e))))) (sym q) (Memᴰ.head refl))

pub has_fork : (E : Recording) (e s : ℕ) → previous E.events e ≡ None → fork_of E.events (task_of E e) ≡ Some s → Memᴰ s (sources E.events e)
unfolding sources
has_fork E e s q r = Memᴰ.append_left _ (subst (λ (m : Option ℕ). Memᴰ s (found (first_found m (fork_of E.events (task_of E e))))) (sym q) (in_found r))

has_end : (E : Recording) (e s : ℕ) → eqb (kind_of E e) join ≡ true → Memᴰ s (found (fork_of E.events (object_of E e)) ++ found (last_event E.events (object_of E e))) → Memᴰ s (sources E.events e)
unfolding sources
has_end E e s q h = Memᴰ.append_right (found (before_or_fork E.events e)) (subst (λ (b : Bool). Memᴰ s (join_sources E.events e b)) (sym q) h)

pub has_join_fork : (E : Recording) (e s : ℕ) → eqb (kind_of E e) join ≡ true → fork_of E.events (object_of E e) ≡ Some s → Memᴰ s (sources E.events e)
has_join_fork E e s q r = has_end E e s q (Memᴰ.append_left (found (last_event E.events (object_of E e))) (in_found r))

pub has_join_end : (E : Recording) (e s : ℕ) → eqb (kind_of E e) join ≡ true → last_event E.events (object_of E e) ≡ Some s → Memᴰ s (sources E.events e)
has_join_end E e s q r = has_end E e s q (Memᴰ.append_right (found (fork_of E.events (object_of E e))) (in_found r))

-- the fork of a task is the one that is found
pub fork_found : (E : Recording) (o : List ℕ) → Admissible E o → (t f : ℕ) → f < size E → is_fork t (event E f) ≡ true → fork_of E.events t ≡ Some f
fork_found E o adm t f l h =
    let (x, q, r, k) = last_found (λ a. is_fork t (event E a)) (size E) f l h in
    q ∙ ap (λ (x : ℕ). Some x) (one_fork E o adm t x f r.inside l r.passes h)
