-- The last event of a joined task is the last before its join.
-- Assumes nothing.
use Prim.Native.Nat.{ℕ, zero, suc, ◌≤◌, ◌<◌}
use Rattle.std.specs.Prelude.{Option, Some, None}
use mathlib.Core.Path.{◌≡◌, refl, sym, ap, ap₂, ◌∙◌}
use mathlib.Core.Bool.{Bool, true, false}
use mathlib.Core.List.{List}
use native.Mathlib.Omega.{arith}
use lib.ListN.{length, take}
use lib.Seq.{length-take-le, get_or-take}
use Rattle.model.specs.declared.Event.{Event}
use Rattle.model.specs.Numbers.{last_of}
use Rattle.model.specs.Recording.{Recording, event, event_in, no_event, task_of, of_task, is_join, Accepted}
use Rattle.model.specs.Passes.{last_event}
use Rattle.model.specs.Orders.{file_order}
use Rattle.model.specs.LastEvent.{LookedBack, NoneAfterJoin, LastBeforeJoin}
use Rattle.model.proofs.Tests.{clash, fails, last_or_lower, eqb-true}
use Rattle.model.proofs.Rules.{join_last}
use Rattle.model.proofs.Sources.{last_some, last_none}
use Rattle.model.proofs.FileOrder.{file_admissible, file_lower}

-- ---- what is found

pub looked : LookedBack
looked l t =
    record {
      hit = λ a q. let k = last_some p (length l) a q in (k.inside, k.passes, k.after);
      none = (last_none p (length l), λ h. nothing h (last_event l t) refl);
    }
  where
    p : ℕ → Bool
    p a = of_task t (event_in l a)

    nothing : ((a : ℕ) → a < length l → p a ≡ false) → (m : Option ℕ) → last_event l t ≡ m → last_event l t ≡ None
    nothing h None q = q
    nothing h (Some a) q = let k = last_some p (length l) a q in clash k.passes (h a k.inside)

-- ---- the last of all is the last before the join

-- tests that agree have one last number
last_alike : (p q : ℕ → Bool) (n : ℕ) → ((a : ℕ) → a < n → p a ≡ q a) → last_of p n ≡ last_of q n
unfolding last_of
last_alike p q zero h = refl
last_alike p q (suc n) h = ap₂ (λ (b : Bool) (m : Option ℕ). elim b as (λ (x : Bool). Option ℕ) [ true ↦ Some n | false ↦ m ]) (h n (omega arith)) (last_alike p q n (λ a k. h a (omega arith)))

-- numbers that fail at the end change nothing
last_cut : (p : ℕ → Bool) (e n : ℕ) → e ≤ n → ((a : ℕ) → e ≤ a → a < n → p a ≡ false) → last_of p n ≡ last_of p e
unfolding last_of
last_cut p e zero h none = let q : 0 ≡ e = omega arith in ap (last_of p) q
last_cut p e (suc n) h none =
    let k : e < suc (suc n) = omega arith in
    last_or_lower k (λ q. ap (last_of p) (sym q))
    (λ k. rw (none n (omega arith) (omega arith), last_of) (last_cut p e n (omega arith) (λ a m l. none a m (omega arith))))

-- so the records before the join have the last event, where none follows the join
pub cut_at_join : (l : List Event) → NoneAfterJoin l → (t e : ℕ) → e < length l → is_join t (event_in l e) ≡ true → last_event l t ≡ last_event (take e l) t
cut_at_join l none t e h j =
    last_cut (λ a. of_task t (event_in l a)) e (length l) (omega arith) (λ a k m. none t e a j k m)
    ∙ last_alike (λ a. of_task t (event_in l a)) (λ a. of_task t (event_in (take e l) a)) e (λ a k. ap (of_task t) (sym (get_or-take e l a no_event k)))
    ∙ ap (last_of (λ a. of_task t (event_in (take e l) a))) (sym (length-take-le e l (omega arith)))

-- ---- in an accepted recording

pub none_after_join : (E : Recording) → Accepted E → NoneAfterJoin E.events
none_after_join E acc t e a j h k =
    fails (of_task t (event E a)) λ own.
    let q : is_join (task_of E a) (event E e) ≡ true = ap (λ (t : ℕ). is_join t (event E e)) (eqb-true (task_of E a) t own) ∙ j in
    let r = file_lower E a e k (omega arith) (join_last E (file_order E) (file_admissible E acc) e a (omega arith) k q) in
    absurd (omega arith)

pub last_before_join : LastBeforeJoin
last_before_join E acc t e h j = cut_at_join E.events (none_after_join E acc) t e h j
