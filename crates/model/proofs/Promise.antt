-- Demand 3: the promises hold of every accepted file and of every budget. Off the list is by soundness, sure by the orders that
-- bring either event forward, the budgets by climbing and by the bound on the sum of all numbers.
-- Assumes nothing.
use Prim.Native.Nat.{ℕ, ◌≤◌, ◌<◌}
use mathlib.Core.Path.{◌≡◌, refl, sym, ap, subst, ◌∙◌}
use mathlib.Core.Logic.{inl}
use mathlib.Core.Bool.{true, false}
use mathlib.Core.List.{Memᴰ}
use native.Mathlib.Omega.{arith}
use Rattle.model.specs.Recording.{Recording, size, tasks, event, task_of, object_of, Accepted}
use Rattle.model.specs.Orders.{Precedes, Admissible, Always, Sometimes, file_order}
use Rattle.model.specs.Vectors.{ordered, unordered}
use Rattle.model.specs.Passes.{Run, needed, candidates, step_one, pass_to, run}
use Rattle.model.specs.Recorded.{recorded}
use Rattle.model.specs.Pairs.{Entry, conflict, race_pair, mark, task_order, entries, listed, OnList}
use Rattle.model.specs.Reversed.{bring_forward}
use Rattle.model.specs.Promise.{Promise, Promised, EnoughCandidates}
use Rattle.model.proofs.Tests.{cases, fails, to_not, both}
use Rattle.model.proofs.Accept.{task_inside, object_inside}
use Rattle.model.proofs.FileOrder.{file_admissible, file_lower}
use Rattle.model.proofs.Sound.{pass_to-length, ordered_precedes, step_one_lem, pass_to_safe, enough}
use Rattle.model.proofs.Climb.{run_shaped, run_safe, settled_stays, budget_up}
use Rattle.model.proofs.Settle.{settles}
use Rattle.model.proofs.Forward.{forward_admissible, forward_precedes}
use Rattle.model.proofs.Listed.{unordered_turned, unordered_apart, Entered, among_of, among_in, race_tasks, race_more, conflict_cell, mark_by, mark_tells}
use Rattle.model.proofs.TaskOrder.{order_of, order_in}
use Rattle.model.proofs.Files.{accepted_recording}
use lib.ListN.{length}

-- two different events that the recorded vectors do not order
pub record Free (E : Recording) (a e : ℕ) : Type 0 where
  pub first_inside : a < size E
  pub second_inside : e < size E
  pub apart : ¬ (a ≡ e)
  pub free : unordered E.events (recorded E) a e ≡ true

pub free_turned : {E : Recording} {a e : ℕ} → Free E a e → Free E e a
free_turned {E} {a} {e} r =
    record {
      first_inside = r.second_inside;
      second_inside = r.first_inside;
      apart = λ q. r.apart (sym q);
      free = unordered_turned E.events (recorded E) e a ∙ r.free;
    }

module _ (E : Recording) where
  -- what an entry of the list says of its two events
  pub on_list : (b a e m : ℕ) → OnList E a e b m → Entered E (run E b).vectors (recorded E) (task_order E.events (tasks E)) a e m
  unfolding listed entries
  on_list b a e m h = among_of E (run E b).vectors (recorded E) (task_order E.events (tasks E)) a e m h

  -- they are events of the recording
  pub inside : (e : ℕ) → Memᴰ e (task_order E.events (tasks E)) → e < size E
  inside e h = order_of E.events (tasks E) e h

  pub entry_inside : (b : ℕ) (p : Entry) → Memᴰ p (listed E b) → (p.first < size E) × (p.second < size E)
  entry_inside b p h = let r = on_list b p.first p.second p.mark (inl h) in (inside _ r.first_in, inside _ r.second_in)

  -- and where it is marked sure, the recorded vectors do not order them
  pub sure_free : (b a e : ℕ) → OnList E a e b 1 → Free E a e
  sure_free b a e h =
      let r = on_list b a e 1 h in
      record {
        first_inside = inside a r.first_in;
        second_inside = inside e r.second_in;
        apart = λ z. race_tasks E (run E b).vectors a e r.race (ap (task_of E) z);
        free = mark_tells E (recorded E) a e true (sym r.marked);
      }

module _ (E : Recording) (acc : Accepted E) where
  file : Admissible E (file_order E)
  file = file_admissible E acc

  -- what the safe vectors order comes so in every admissible order
  pub ordered_always : (b a e : ℕ) → a < size E → e < size E → ordered E.events (run E b).vectors a e ≡ true → Always E a e
  ordered_always b a e k l t o adm = ordered_precedes E o adm (run E b).vectors (run_safe E o adm b) a e k l t

  enough_at : (b n : ℕ) → n < size E
      → needed E (step_one E (pass_to E (run E b).vectors n) n) n ≤ length (candidates E (step_one E (pass_to E (run E b).vectors n) n) n)
  enough_at b n l =
      let X = pass_to E (run E b).vectors n in
      let rows = (run_shaped E b).rows in
      let safe = pass_to_safe E (file_order E) file (run E b).vectors n (omega arith) rows (run_safe E (file_order E) file b) in
      enough E (file_order E) file (step_one E X n) (step_one_lem E (file_order E) file X n l (pass_to-length E (run E b).vectors n ∙ rows) safe) n l

  -- ---- off the list

  -- a conflicting pair that neither way is ordered is on the list
  pub put : (b a e : ℕ) → a < size E → e < size E → conflict (event E a) (event E e) ≡ true
      → ordered E.events (run E b).vectors a e ≡ false → ordered E.events (run E b).vectors e a ≡ false → OnList E a e b (mark E (recorded E) a e)
  unfolding listed entries race_pair unordered
  put b a e k l t p q =
      among_in E (run E b).vectors (recorded E) (task_order E.events (tasks E)) a e (mark E (recorded E) a e)
      (record {
        first_in = order_in E.events (tasks E) (task_inside E acc) a k;
        second_in = order_in E.events (tasks E) (task_inside E acc) e l;
        cell = subst (λ (n : ℕ). object_of E a < n) (conflict_cell E.counts (event E a) (event E e) t) (object_inside E acc a k);
        race = both t (both (to_not p) (to_not q));
        marked = refl;
      })

  off_list : (b a e : ℕ) → a < e → e < size E → conflict (event E a) (event E e) ≡ true → ((m : ℕ) → ¬ (OnList E a e b m)) → Always E a e
  off_list b a e k l t none =
      cases (ordered E.events (run E b).vectors a e) (λ p. ordered_always b a e (omega arith) l p)
      (λ p.
      cases (ordered E.events (run E b).vectors e a)
      (λ q. let r = file_lower E e a l (omega arith) (ordered_always b e a l (omega arith) q (file_order E) file) in absurd (omega arith))
      (λ q. absurd (none (mark E (recorded E) a e) (put b a e (omega arith) l t p q))))

  -- ---- sure

  -- where the recorded vectors do not order a pair, bringing either event forward puts it first
  pub free_first : (a e : ℕ) → Free E a e → Precedes (bring_forward E.events (recorded E) a) a e
  free_first a e r =
      forward_precedes E acc a r.first_inside e (λ q. r.apart (sym q)) (unordered_apart E.events (recorded E) a e r.free).1

  one_way : (a e : ℕ) → Free E a e → Sometimes E a e
  one_way a e r = (bring_forward E.events (recorded E) a, forward_admissible E acc a r.first_inside, free_first a e r)

  -- so that both orders are admissible
  pub both_ways : (a e : ℕ) → Free E a e → Sometimes E a e × Sometimes E e a
  both_ways a e r = (one_way a e r, one_way e a (free_turned r))

  sure : (b : ℕ) (p : Entry) → Memᴰ p (listed E b) → p.mark ≡ 1 → Sometimes E p.first p.second × Sometimes E p.second p.first
  sure b p m q = both_ways p.first p.second (sure_free E b p.first p.second (subst (OnList E p.first p.second b) q (inl m)))

  -- the safe vectors do not order such a pair either: it would come so in every admissible order
  still_free : (b a e : ℕ) → Free E a e → ordered E.events (run E b).vectors a e ≡ false
  still_free b a e r =
      let (o, adm, p) = one_way e a (free_turned r) in
      fails (ordered E.events (run E b).vectors a e)
      (λ t. let q = ordered_always b a e r.first_inside r.second_inside t o adm in omega arith)

  -- so a conflicting one is listed, and marked sure
  pub free_listed : (b a e : ℕ) → Free E a e → conflict (event E a) (event E e) ≡ true → OnList E a e b 1
  free_listed b a e r t =
      subst (OnList E a e b) (mark_by E (recorded E) a e true r.free)
      (put b a e r.first_inside r.second_inside t (still_free b a e r) (still_free b e a (free_turned r)))

-- ---- larger budgets

module _ (E : Recording) where
  adds_none : (b d : ℕ) → b ≤ d → (a e m : ℕ) → OnList E a e d m → OnList E a e b m
  unfolding listed entries
  adds_none b d h a e m k =
      let r = on_list E d a e m k in
      among_in E (run E b).vectors (recorded E) (task_order E.events (tasks E)) a e m
      (record {
        first_in = r.first_in;
        second_in = r.second_in;
        cell = r.cell;
        race = race_more E (run E b).vectors (run E d).vectors (budget_up E b d h) a e r.race;
        marked = r.marked;
      })

  -- a mark is that of its two events, whichever is named first
  one_mark : (b d a e m n : ℕ) → OnList E a e d m → OnList E a e b n → m ≡ n
  one_mark b d a e m n k l = (on_list E d a e m k).marked ∙ sym (on_list E b a e n l).marked

  keeps_list : (b d : ℕ) → b ≤ d → (run E b).settled ≡ true → listed E d ≡ listed E b
  unfolding listed
  keeps_list b d h q = ap (λ (r : Run). entries E r.vectors (recorded E)) (settled_stays E b d h q)

-- ---- the theorem

pub recording_promise : (E : Recording) → Accepted E → (b : ℕ) → Promise E b
recording_promise E acc b =
    record {
      off_list = off_list E acc b;
      sure = sure E acc b;
      adds_none = λ d h a e m k. (m, adds_none E b d h a e m k);
      keeps_marks = λ d h a e m n k l. one_mark E b d a e m n k l;
      settles = λ h. settles E (file_order E) (file_admissible E acc) b (omega arith);
      keeps_list = λ q d h. keeps_list E b d h q;
      keeps_passes = λ q d h. ap (λ (r : Run). r.passes) (settled_stays E b d h q);
    }

pub promise : Promised
promise f h acc b = recording_promise _ (accepted_recording f h acc) b

pub enough_candidates : EnoughCandidates
enough_candidates f h acc b e l = enough_at _ (accepted_recording f h acc) b e l
