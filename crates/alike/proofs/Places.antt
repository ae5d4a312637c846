-- Counterparts kept place by place of the two task orders, at which twins stand. Assumes nothing.
use mathlib.Core.Path.{◌≡◌, sym, ap, ◌∙◌}
use mathlib.Core.List.{List}
use Prim.Native.Nat.{ℕ, ◌+◌, ◌/◌, ◌≤◌, ◌<◌}
use native.Mathlib.Omega.{arith}
use lib.Dec.{eqb}
use lib.ListN.{length, get_or, set, take, length-set}
use lib.Seq.{get_or-take, get_or-set_same, get_or-set_other}
use Rattle.model.specs.declared.Event.{Event}
use Rattle.model.specs.Orders.{place, occurrences}
use Rattle.model.specs.File.{events_of}
use Rattle.model.specs.Pairs.{task_order}
use Rattle.model.proofs.Tests.{cases, tests}
use Rattle.model.proofs.Files.{events_length}
use Rattle.model.proofs.Place.{place_lt, at_place, stands}
use Rattle.model.proofs.TaskOrder.{order_once, order_length}
use Rattle.model.proofs.Twins.{Twin, SameRecords, order_twins, same_size}
use Rattle.events.specs.Kept.{Tasked}
use Rattle.alike.specs.Alike.{Counterparts}

-- of the events at the first i places of an order the twins are kept
pub record Met (l m : List Event) (order : List ℕ) (i : ℕ) (kept : List ℕ) : Type 0 where
  pub wide : length kept ≡ 1024
  pub twins : (j : ℕ) → j < i → let e = get_or order j 0 in Twin l m e (get_or kept e 0)

-- one more, the event e with its twin x: an event that stood there before has the same twin
pub met_next : (l m : List Event) (order : List ℕ) (i : ℕ) (kept : List ℕ) (x : ℕ) → Met l m order i kept → Twin l m (get_or order i 0) x
    → get_or order i 0 < 1024 → Met l m order (i + 1) (set kept (get_or order i 0) x)
met_next l m order i kept x h w k =
    let e = get_or order i 0 in
    record {
      wide = length-set kept e x ∙ h.wide;
      twins =
          λ j t.
          cases (eqb (get_or order j 0) e)
          (λ q. let d : get_or order j 0 ≡ e = omega tests in rw (d, get_or-set_same kept e x 0 (omega (arith, h.wide))) w)
          (λ q.
          let other : (j ≡ i → ⊥) = λ r. let z = ap (λ (a : ℕ). get_or order a 0) r in omega tests in
          let d : j < i = omega arith in
          rw (get_or-set_other kept e (get_or order j 0) x 0 (λ r. omega tests)) (h.twins j d));
    }

module _ (s : List ℕ) (tasks : ℕ) (order : List ℕ) (p : take (length s / 4) order ≡ task_order (events_of s) tasks) where
  order_at : (i : ℕ) → i < length s / 4 → get_or (task_order (events_of s) tasks) i 0 ≡ get_or order i 0
  order_at i h = ap (λ (o : List ℕ). get_or o i 0) (sym p) ∙ get_or-take (length s / 4) order i 0 h

  -- each event stands in its task order
  order_has : Tasked (events_of s) tasks → (e : ℕ) → e < length s / 4 → (i : ℕ) × (i < length s / 4) × (get_or order i 0 ≡ e)
  order_has named e h =
      let l = events_of s in
      let o = task_order l tasks in
      let n = events_length s in
      let once = stands (length l) o (order_once l tasks named) e (omega arith) in
      let k : 0 < occurrences e o = omega arith in
      let i : place o e < length s / 4 = omega (arith, place_lt e o k, order_length l tasks named) in
      (place o e, i, sym (order_at (place o e) i) ∙ at_place e o k)

module _ (s u : List ℕ) (tasks : ℕ) (same : SameRecords (events_of s) (events_of u)) (named : Tasked (events_of s) tasks) (here : List ℕ)
    (p : take (length s / 4) here ≡ task_order (events_of s) tasks) where
  pub twins_at : (there : List ℕ) → take (length u / 4) there ≡ task_order (events_of u) tasks → (i : ℕ) → i < length s / 4
      → Twin (events_of s) (events_of u) (get_or here i 0) (get_or there i 0)
  twins_at there q i h =
      let n = events_length s in
      let m = events_length u in
      let z = same_size (events_of s) (events_of u) same in
      rw (← order_at s tasks here p i h, ← order_at u tasks there q i (omega arith))
      (order_twins (events_of s) (events_of u) same tasks named i (omega arith))

  pub all_met : (kept : List ℕ) → length s / 4 ≤ 1024 → Met (events_of s) (events_of u) here (length s / 4) kept
      → Counterparts (events_of s) (events_of u) kept
  all_met kept few h =
      record {
        room = omega (arith, events_length s, h.wide);
        inside = λ e l. (twin e l).right;
        same = λ e l. sym (twin e l).same;
        placed = λ e l. sym (twin e l).place;
      }
    where
      twin : (e : ℕ) → e < length (events_of s) → Twin (events_of s) (events_of u) e (get_or kept e 0)
      twin e l = let (i, k, q) = order_has s tasks here p named e (omega (arith, events_length s)) in rw q at (h.twins i k)
