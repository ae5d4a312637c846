-- What the one list of two recordings of the same work promises of each: off it is off the recording's own list; sure is by the
-- recording's own orders or by the other's, which are the same by twins.
-- Assumes nothing.
use Prim.Native.Nat.{ℕ, ◌<◌}
use mathlib.Core.Path.{◌≡◌, refl, sym, ap, subst₂, ◌∙◌}
use mathlib.Core.Bool.{true}
use mathlib.Core.Logic.{inl, inr}
use mathlib.Core.List.Memᴰ
use mathlib.Core.List.{Memᴰ}
use Rattle.model.specs.Recording.{Recording, size, event, Accepted}
use Rattle.model.specs.Orders.{Always, Sometimes}
use Rattle.model.specs.Passes.{budget_of}
use Rattle.model.specs.Pairs.{conflict, Entry, listed, OnList}
use Rattle.model.specs.Together.{Named, name_of, settled_pairs, mark_of, joint_mark}
use Rattle.model.specs.OneJob.{SameWork, pair_of, NamedWith, OnJoint, JointPromise}
use Rattle.model.proofs.Positions.{position_one}
use Rattle.model.proofs.Least.{max_with}
use Rattle.model.proofs.Promise.{entry_inside, recording_promise}
use Rattle.model.proofs.Twins.{twin_name, twin_of}
use Rattle.model.proofs.SameOrders.{sometimes_twins}
use Rattle.model.proofs.JointMarks.{entry_mark}

-- ---- one recording

module _ (E : Recording) where
  -- a listed pair is on the list by name
  name_in : (a b m : ℕ) → Memᴰ (record { first = a; second = b; mark = m }) (listed E (budget_of E))
      → Memᴰ (pair_of E a b) (settled_pairs E)
  unfolding name_of
  name_in a b m h = Memᴰ.map (name_of E.events) h

  -- and no other pair: a name is of one pair
  name_of_lem : (a b : ℕ) → Memᴰ (pair_of E a b) (settled_pairs E)
      → (m : ℕ) × Memᴰ (record { first = a; second = b; mark = m }) (listed E (budget_of E))
  unfolding name_of
  name_of_lem a b h =
      let (p, k, q) = Memᴰ.of_map (name_of E.events) (listed E (budget_of E)) h in
      let i = position_one E.events p.first a (ap (λ (n : Named). n.task) q) (ap (λ (n : Named). n.position) q) in
      let j = position_one E.events p.second b (ap (λ (n : Named). n.other_task) q) (ap (λ (n : Named). n.other_position) q) in
      (p.mark, subst₂ (λ (x y : ℕ). Memᴰ (record { first = x; second = y; mark = p.mark }) (listed E (budget_of E))) i j k)

  -- so of events of the recording
  name_inside : (a b : ℕ) → Memᴰ (pair_of E a b) (settled_pairs E) → (a < size E) × (b < size E)
  name_inside a b h = let (m, k) = name_of_lem a b h in entry_inside E (budget_of E) (record { first = a; second = b; mark = m }) k

  -- a pair that the recording itself makes sure goes both ways
  name_sure : Accepted E → (a b : ℕ) → Memᴰ (pair_of E a b) (settled_pairs E) → mark_of E (pair_of E a b) ≡ 1
      → Sometimes E a b × Sometimes E b a
  unfolding name_of
  name_sure acc a b h q =
      let (m, k) = name_of_lem a b h in
      let p : Entry = record { first = a; second = b; mark = m } in
      (recording_promise E acc (budget_of E)).sure p k (sym (entry_mark E (budget_of E) p k) ∙ q)

-- ---- both

module _ (E F : Recording) (accE : Accepted E) (accF : Accepted F) (same : SameWork E F) (pairs : settled_pairs E ≡ settled_pairs F) where
  -- a pair on its own list is on the one list
  on_joint : (a b m : ℕ) → OnList E a b (budget_of E) m → (n : ℕ) × OnJoint E F a b n
  on_joint a b m (inl h) = (_, inl (name_in E a b m h, refl))
  on_joint a b m (inr h) = (_, inr (name_in E b a m h, refl))

  off_list : (a b : ℕ) → a < b → b < size E → conflict (event E a) (event E b) ≡ true → ((m : ℕ) → ¬ (OnJoint E F a b m)) → Always E a b
  off_list a b k l t none =
      (recording_promise E accE (budget_of E)).off_list a b k l t (λ m h. let (n, j) = on_joint a b m h in none n j)

  -- a pair that the other recording makes sure: the twins go both ways there
  other_sure : (a b : ℕ) → Memᴰ (pair_of E a b) (settled_pairs E) → mark_of F (pair_of E a b) ≡ 1 → Sometimes E a b × Sometimes E b a
  other_sure a b h q =
      let (k, l) = name_inside E a b h in
      let (x, v) = twin_of E.events F.events same.records a k in
      let (y, w) = twin_of E.events F.events same.records b l in
      let name = twin_name E.events F.events a b x y 0 0 v w in
      let (i, j) = name_sure F accF x y (subst₂ Memᴰ name pairs h) (ap (mark_of F) (sym name) ∙ q) in
      (sometimes_twins E F same a b x y v w i, sometimes_twins E F same b a y x w v j)

  -- the mark of both is the mark of one of them
  named_sure : (a b : ℕ) → NamedWith E F a b 1 → Sometimes E a b × Sometimes E b a
  unfolding joint_mark
  named_sure a b (h, q) =
      max_with (λ n. n ≡ 1 → Sometimes E a b × Sometimes E b a) (mark_of E (pair_of E a b)) (mark_of F (pair_of E a b))
      (name_sure E accE a b h) (other_sure a b h) q

  sure : (a b : ℕ) → OnJoint E F a b 1 → Sometimes E a b × Sometimes E b a
  sure a b (inl h) = named_sure a b h
  sure a b (inr h) = let (u, v) = named_sure b a h in (v, u)

  pub joint_promise : JointPromise E F
  joint_promise = record { off_list = off_list; sure = sure }
