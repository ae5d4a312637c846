-- Two recordings of the same work settle alike: their settled vectors match, so twins are ordered alike and race alike, and twins
-- have the same name. They are the same work exactly where comparing them passes.
-- Assumes nothing.
use Prim.Native.Nat.{ℕ}
use Rattle.std.specs.Prelude.{Option, Some, None}
use mathlib.Core.Path.{◌≡◌, refl, sym, ap, ap₂, subst, fun_ext, ◌∙◌}
use mathlib.Core.Bool.{Bool, true, not, ◌&&◌}
use mathlib.Core.List.{List}
use native.Mathlib.Nat.{le_refl}
use native.Mathlib.Omega.{arith}
use lib.Dec.{leb, eqb}
use Rattle.model.specs.declared.Event.{Event}
use Rattle.model.specs.Numbers.{flat_map}
use Rattle.model.specs.Recording.{Recording, tasks, cells, task_of, object_of, Accepted}
use Rattle.model.specs.File.{recording_of}
use Rattle.model.specs.Vectors.{Vectors, number, ordered, unordered}
use Rattle.model.specs.Passes.{safe_vectors, is_settled, budget_of}
use Rattle.model.specs.Recorded.{recorded}
use Rattle.model.specs.Pairs.{conflict, race_pair, Entry, pair_at, entries_of, row_at, cell_entries, entries_in, task_order, entries, listed}
use Rattle.model.specs.Together.{at_position, name_of, settled_pairs, joint_list}
use Rattle.model.specs.OneJob.{SameWork, number_found, number_at, Alike, JointPromise, OneJob, Together}
use Rattle.model.proofs.Alongside.{Alongside, ends, beside, alongside_map, alongside_each, alongside_flat, alongside_tails, alongside_where}
use Rattle.model.proofs.Files.{accepted_recording}
use Rattle.model.proofs.Promise.{recording_promise}
use Rattle.model.proofs.Twins.{twin_equal, twin_name, twin_of, named_of, finds, tasks_twins}
use Rattle.model.proofs.Monotone.{Twins}
use Rattle.model.proofs.Below.{same_sym, Matching, settled_matching}
use Rattle.model.proofs.WorkAlike.{work_alike_lem}
use Rattle.model.proofs.JointMarks.{entry_turned}
use Rattle.model.proofs.JointPromise.{joint_promise}

-- ---- vectors by name

-- a name finds twins
found_twin : (E F : Recording) → SameWork E F → (t p a : ℕ) → at_position E.events t p ≡ Some a
    → (x : ℕ) × Twins E F a x × (at_position F.events t p ≡ Some x)
found_twin E F same t p a q =
    let (l, u, v) = named_of E.events t p a q in
    let (x, w) = twin_of E.events F.events same.records a l in
    (x, w, finds F.events t p x w.right (ap (λ (r : Event). r.task) (sym w.same) ∙ u) (sym w.place ∙ v))

-- vectors that match have the same numbers by name
number_named : (E F : Recording) → SameWork E F → (X Y : Vectors) → Matching E F X Y
    → (t p u : ℕ) → number_at E X t p u ≡ number_at F Y t p u
number_named E F same X Y alike t p u = go (at_position E.events t p) (at_position F.events t p) refl refl
  where
    go : (m n : Option ℕ) → at_position E.events t p ≡ m → at_position F.events t p ≡ n → number_found X m u ≡ number_found Y n u
    go None None q r = refl
    go None (Some x) q r =
        let (a, w, f) = found_twin F E (same_sym E F same) t p x r in
        let z : ◌≡◌ {A = ℕ} 0 1 = cc in absurd (omega arith)
    go (Some a) n q r =
        let (x, w, f) = found_twin E F same t p a q in
        subst (λ (n : Option ℕ). number X a u ≡ number_found Y n u) (sym f ∙ r) (alike a x u w)

-- ---- pairs by name

-- entries with the same name
abbrev Namesakes : Recording → Recording → Entry → Entry → Type 0
Namesakes E F p q = name_of E.events p ≡ name_of F.events q

module _ (E F : Recording) (same : SameWork E F) (X Y : Vectors) (alike : Matching E F X Y) where
  ordered_same : (a e x y : ℕ) → Twins E F a x → Twins E F e y → ordered E.events X a e ≡ ordered F.events Y x y
  unfolding ordered
  ordered_same a e x y v w =
      ap₂ (λ (i j : Bool). not i && j) (twin_equal E.events F.events a e x y v w)
      (ap₂ leb v.place (alike e y (task_of E a) w ∙ ap (λ (r : Event). number Y y r.task) v.same))

  race_same : (a e x y : ℕ) → Twins E F a x → Twins E F e y → race_pair E X a e ≡ race_pair F Y x y
  unfolding race_pair unordered
  race_same a e x y v w =
      ap₂ (λ (i j : Bool). i && j) (ap₂ conflict v.same w.same)
      (ap₂ (λ (i j : Bool). not i && not j) (ordered_same a e x y v w) (ordered_same e a y x w v))

  module _ (R S : Vectors) where
    pair_alike : (a x : ℕ) → Twins E F a x → (e y : ℕ) → Twins E F e y
        → Alongside (Namesakes E F) (pair_at E X R a e) (pair_at F Y S x y)
    pair_alike a x v e y w =
        alongside_where (race_pair E X a e) (race_pair F Y x y) (race_same a e x y v w)
        (beside (twin_name E.events F.events a e x y _ _ v w) ends)

    row_alike : (c a x : ℕ) (o r : List ℕ) → Twins E F a x → Alongside (Twins E F) o r
        → Alongside (Namesakes E F) (row_at E X R c a o) (row_at F Y S c x r)
    unfolding entries_of
    row_alike c a x o r v k =
        alongside_where (eqb (object_of E a) c) (eqb (object_of F x) c) (ap (λ (u : Event). eqb u.object c) v.same)
        (alongside_flat (pair_at E X R a) (pair_at F Y S x) (pair_alike a x v) k)

    -- the two lists have the same names, since the two task orders are twins
    entries_alike : Alongside (Namesakes E F) (entries E X R) (entries F Y S)
    unfolding entries entries_in cell_entries
    entries_alike =
        let o = task_order E.events (tasks E) in
        let r = task_order F.events (tasks F) in
        let order = tasks_twins E.events F.events same.records (tasks E) (tasks F) same.tasks in
        alongside_each (cell_entries E X R o) (cell_entries F Y S r)
        (λ c. alongside_tails (row_at E X R c) (row_at F Y S c) (row_alike c) order)
        (cells E) (cells F) same.cells

-- two settled runs have the same vectors and the same pairs
pub settled_alike : (E F : Recording) → Accepted E → Accepted F → SameWork E F
    → (b d : ℕ) → is_settled E b ≡ true → is_settled F d ≡ true → Alike E F b d
unfolding listed
settled_alike E F accE accF same b d q r =
    let X = safe_vectors E b in
    let Y = safe_vectors F d in
    let h = settled_matching E F accE accF same b d q r in
    record {
      vectors = number_named E F same X Y h;
      pairs =
          alongside_map (name_of E.events) (name_of F.events) (λ p q n. n)
          (entries_alike E F same X Y h (recorded E) (recorded F));
    }

-- ---- the theorem

module _ (E F : Recording) (accE : Accepted E) (accF : Accepted F) (same : SameWork E F) where
  -- the settled lists have the same pairs
  pairs_same : settled_pairs E ≡ settled_pairs F
  pairs_same =
      let q = (recording_promise E accE (budget_of E)).settles (le_refl (budget_of E)) in
      let r = (recording_promise F accF (budget_of F)).settles (le_refl (budget_of F)) in
      (settled_alike E F accE accF same (budget_of E) (budget_of F) q r).pairs

  list_turned : joint_list E F ≡ joint_list F E
  unfolding joint_list
  list_turned = ap₂ flat_map (fun_ext (entry_turned E F)) pairs_same

  both_promised : JointPromise E F × JointPromise F E
  both_promised = (
    joint_promise E F accE accF same pairs_same,
    joint_promise F E accF accE (same_sym E F same) (sym pairs_same),
  )

-- of files
module _ {f g : List ℕ} (j : OneJob f g) where
  first_accepted : Accepted (recording_of f)
  first_accepted = accepted_recording f j.first_trailer j.first_accepted

  second_accepted : Accepted (recording_of g)
  second_accepted = accepted_recording g j.second_trailer j.second_accepted

pub together : Together
together =
    record {
      alike = λ f g j. settled_alike _ _ (first_accepted j) (second_accepted j) j.work;
      turned = λ f g j. list_turned _ _ (first_accepted j) (second_accepted j) j.work;
      promise = λ f g j. both_promised _ _ (first_accepted j) (second_accepted j) j.work;
      differs = λ f g h k q r. work_alike_lem f g (accepted_recording f h q) (accepted_recording g k r);
    }
