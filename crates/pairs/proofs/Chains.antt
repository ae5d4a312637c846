-- Laws of the chains of accesses: what a chain passes over has no part in a list. Assumes nothing.
use mathlib.Core.Path.{◌≡◌, refl}
use mathlib.Core.Bool.{true, false}
use mathlib.Core.List.{List, []}
use Prim.Native.Nat.{ℕ, ◌+◌, ◌≤◌, ◌<◌}
use native.Mathlib.Omega.{arith}
use lib.Dec.{eqb}
use lib.ListN.{length, get_or}
use Rattle.model.specs.Numbers.{each}
use Rattle.model.specs.File.{events_of}
use Rattle.model.specs.Pairs.{is_access, task_order}
use Rattle.model.specs.Reading.{most_events}
use Rattle.model.proofs.TaskOrder.{order_length, order_at}
use Rattle.events.specs.Kept.{Tasked}
use Rattle.model.proofs.Each.{each_skip}
use Rattle.model.proofs.Tests.{both, first, second, eqb-true, eq-eqb}
use Rattle.events.specs.Chains.{access_of, head, Along}
use Rattle.pairs.specs.Chains.{Nearest, Linked, InChain}
use Rattle.model.specs.Recording.{event_in}

-- the task order is one of the records' events
pub task_order_along : (s : List ℕ) (tasks : ℕ) → length (events_of s) ≤ most_events → Tasked (events_of s) tasks → Along s (task_order (events_of s) tasks)
task_order_along s tasks h named = record { few = omega (arith, order_length (events_of s) tasks named); numbered = λ i l. order_at (events_of s) tasks named i l }

-- an access of a cell below k stands in the chain of its cell
pub in_chain : (s order : List ℕ) (k x i : ℕ) → i < length order → x < k → access_of s order x i ≡ true → InChain s order k i
in_chain s order k x i h l t =
    let v = event_in (events_of s) (get_or order i 0) in
    let e = eqb-true v.object x (second (is_access v) (eqb v.object x) t) in
    record { placed = h; cell = omega arith; access = both (first (is_access v) (eqb v.object x) t) (eq-eqb v.object v.object refl) }

-- ---- the places of a chain, one after another

module _ {s order : List ℕ} {k : ℕ} {chain : List ℕ} (l : Linked s order k chain) (x : ℕ) (h : x < k) where
  pub first_place : Nearest s order x 0 (get_or chain (head x) 0)
  first_place = l.chained.heads x h

  pub next_place : (i : ℕ) → i < length order → access_of s order x i ≡ true → Nearest s order x (i + 1) (get_or chain i 0)
  next_place i n t = l.chained.links i x (omega arith) n h t

-- ---- what a chain passes over

-- parts that are empty where no access is
pub skipped : {A : Type 0} (f : ℕ → List A) (s order : List ℕ) (x m j : ℕ) → Nearest s order x m j → ((i : ℕ) → access_of s order x i ≡ false → f i ≡ []) → each f j ≡ each f m
skipped f s order x m j n h = each_skip f m j n.low (λ i l u. h i (n.passed i l u))
