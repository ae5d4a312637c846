-- The order of an accepted file is admissible.
-- Assumes nothing.
use Prim.Native.Nat.{ℕ, zero, suc, ◌≤◌, ◌<◌}
use mathlib.Core.Path.{◌≡◌, refl, sym, ap, subst, ◌∙◌}
use mathlib.Core.Bool.{true}
use mathlib.Core.List.{List, [], ◌∷◌, ◌++◌, map, Memᴰ}
use native.Mathlib.Nat.{le_refl}
use lib.Dec.{ltb}
use native.Mathlib.Omega.{arith}
use lib.ListN.{take}
use lib.Seq.{take-suc, take-length}
use Rattle.model.specs.declared.Event.{Event}
use Rattle.model.specs.Numbers.{each, picked}
use Rattle.model.specs.Recording.{event, no_event, Accepted, Recording, size}
use Rattle.model.specs.Orders.{place, Obeying, Precedes, file_order, rearranged, Admissible}
use Rattle.model.proofs.Tests.{cases, clash, fails, compared, lt-ltb, ltb-true}
use Rattle.model.proofs.Rules.{sooner}
use Rattle.model.proofs.Picked.{picked_occurs, picked_rises, picked_mem, picked_in}
use Rattle.model.proofs.Accept.{accepted_obeys}

pub map-append : {A B : Type 0} (g : A → B) (l m : List A) → map g (l ++ m) ≡ map g l ++ map g m
map-append g [] m = refl
map-append g (x ∷ l) m = ap (λ (r : List _). g x ∷ r) (map-append g l m)

file_records : (E : Recording) (n : ℕ) → n ≤ size E → rearranged E (picked (λ e. true) n) ≡ take n E.events
unfolding picked each
file_records E zero h = refl
file_records E (suc n) h =
    map-append (event E) (picked (λ e. true) n) (n ∷ [])
    ∙ ap (λ (l : List Event). l ++ (event E n ∷ [])) (file_records E n (omega arith)) ∙ sym (take-suc E.events n no_event h)

pub file_of_lem : (E : Recording) (e : ℕ) → Memᴰ e (file_order E) → e < size E
unfolding file_order
file_of_lem E e m = (picked_mem (λ e. true) e (size E) m).0

pub file_in_lem : (E : Recording) (e : ℕ) → e < size E → Memᴰ e (file_order E)
unfolding file_order
file_in_lem E e l = picked_in (λ e. true) e (size E) l refl

pub file_precedes : (E : Recording) (a b : ℕ) → a < b → b < size E → Precedes (file_order E) a b
unfolding file_order
file_precedes E a b k l = picked_rises (λ e. true) a b (size E) k l refl refl

pub file_admissible : (E : Recording) → Accepted E → Admissible E (file_order E)
unfolding file_order
file_admissible E acc =
    record {
      once = λ e. picked_occurs (λ e. true) e (size E);
      own = λ a b k l t. file_precedes E a b k l;
      rules = subst (Obeying E.levels) (sym (file_records E (size E) (le_refl (size E)) ∙ take-length E.events)) (accepted_obeys E acc);
    }

pub file_lower : (E : Recording) (a b : ℕ) → a < size E → b < size E → Precedes (file_order E) a b → a < b
file_lower E a b k l p =
    compared a b (λ h. h) (λ e. let q = ap (place (file_order E)) e in absurd (omega arith)) (λ m. let q = file_precedes E b a m k in absurd (omega arith))

-- the order of the file, as a test
pub file_test : (E : Recording) (a b : ℕ) → a < size E → b < size E → sooner (file_order E) a b ≡ ltb a b
file_test E a b k l =
    cases (ltb a b) (λ t. lt-ltb _ _ (file_precedes E a b (ltb-true a b t) l) ∙ sym t)
    (λ t. fails (sooner (file_order E) a b) (λ u. clash (lt-ltb a b (file_lower E a b k l (ltb-true _ _ u))) t) ∙ sym t)
