-- What holding two files together answers and leaves, case by case.
-- Assumes nothing.
use mathlib.Core.Path.{◌≡◌, refl, subst₂, ◌∙◌}
use Rattle.std.specs.Prelude.{Result, Ok, Err}
use mathlib.Core.Bool.{true, false, ◌&&◌}
use mathlib.Core.List.{List, ◌++◌}
use Prim.Native.Nat.{ℕ, ◌*◌}
use lib.ListN.{length, drop}
use Rattle.model.specs.declared.Refusal.{Refusal}
use Rattle.model.specs.Refusals.{Check, and_then, after}
use Rattle.model.specs.Recording.{Recording}
use Rattle.model.specs.File.{recording_of}
use Rattle.model.specs.Reading.{file_check}
use Rattle.model.specs.Analysing.{work_fits}
use Rattle.model.specs.Together.{work_alike, settled_pairs, joint_fits, joint_list, both_check, joint_check, joint_by, joint_of, first_work_after, second_work_after, joint_list_after, settled_in}
use Rattle.together.specs.Lent.{room_check, list_check, Settled}

-- ---- the files

-- two files f and g, with the work memories v and w and the list l: the answer is a, and v', w' and l' are left
pub record Held (f g v w l : List ℕ) (a : Result ℕ Refusal) (v' w' l' : List ℕ) : Type 0 where
  pub answer : a ≡ joint_of f g v w l
  pub first : v' ≡ first_work_after f g v w
  pub second : w' ≡ second_work_after f g v w
  pub list : l' ≡ joint_list_after f g v w l

module _ (f g v w l : List ℕ) where
  by_checks : (k m : Check) → both_check f g v w ≡ k → joint_check f g v w l ≡ m → (a : Result ℕ Refusal) (v' w' l' : List ℕ) → a ≡ joint_by (recording_of f) m
      → v' ≡ after k (λ _. settled_in (recording_of f) v) v → w' ≡ after k (λ _. settled_in (recording_of g) w) w
      → l' ≡ after m (λ _. joint_list (recording_of f) (recording_of g) ++ drop (5 * length (settled_pairs (recording_of f))) l) l
      → Held f g v w l a v' w' l'
  unfolding joint_of first_work_after second_work_after joint_list_after
  by_checks k m p q a v' w' l' x y z u = record { answer = x ∙ rw q; first = y ∙ rw p; second = z ∙ rw p; list = u ∙ rw q }

  -- nothing is changed where a check of the files fails
  refused : (r : Refusal) → both_check f g v w ≡ Err r → Held f g v w l (Err r) v w l
  unfolding joint_check
  refused r p = by_checks (Err r) (Err r) p (rw p) _ _ _ _ refl refl refl refl

  pub refused_first : (r : Refusal) → file_check f ≡ Err r → Held f g v w l (Err r) v w l
  unfolding both_check
  refused_first r p = refused r (rw p)

  module _ (p : file_check f ≡ Ok tt) where
    pub refused_second : (r : Refusal) → file_check g ≡ Err r → Held f g v w l (Err r) v w l
    unfolding both_check
    refused_second r q = refused r (rw (p, q))

    module _ (q : file_check g ≡ Ok tt) where
      pub refused_differ : (r : Refusal) → work_alike (recording_of f) (recording_of g) ≡ Err r → Held f g v w l (Err r) v w l
      unfolding both_check
      refused_differ r h = refused r (rw (p, q, h))

      -- two files of the same work
      pub held_by : work_alike (recording_of f) (recording_of g) ≡ Ok tt → (E F : Recording) → E ≡ recording_of f → F ≡ recording_of g
          → (a : Result ℕ Refusal) (v' w' l' : List ℕ) → Settled E F v w l a v' w' l' → Held f g v w l a v' w' l'
      unfolding both_check joint_check
      held_by h E F x y a v' w' l' u =
          let s = subst₂ (λ (A B : Recording). Settled A B v w l a v' w' l') x y u in
          by_checks (room_check (recording_of f) (recording_of g) v w) (and_then (room_check (recording_of f) (recording_of g) v w) λ _. list_check (recording_of f) l)
          (rw (p, q, h)) (rw (p, q, h)) a v' w' l' s.answer s.first s.second s.list

-- ---- recordings of the same work

-- with room in both work memories, which are filled
module _ (E F : Recording) (v w l : List ℕ) (h : (work_fits E v && work_fits F w) ≡ true) (v' w' : List ℕ) (k : v' ≡ settled_in E v) (m : w' ≡ settled_in F w) where
  pub short_list : (n : ℕ) (l' : List ℕ) → n ≡ length (settled_pairs E) → joint_fits E l ≡ false → l' ≡ l → Settled E F v w l (Err (Refusal.List n)) v' w' l'
  short_list n l' e r q = record { answer = rw (h, r, e); first = k ∙ rw h; second = m ∙ rw h; list = q ∙ rw (h, r) }

  pub finished : (n : ℕ) (l' : List ℕ) → n ≡ length (settled_pairs E) → joint_fits E l ≡ true
      → l' ≡ joint_list E F ++ drop (5 * length (settled_pairs E)) l → Settled E F v w l (Ok n) v' w' l'
  finished n l' e r q = record { answer = rw (h, r, e); first = k ∙ rw h; second = m ∙ rw h; list = q ∙ rw (h, r) }
