-- A walk along a chain that stops after the first of its numbers. Assumes nothing.
use mathlib.Core.Path.{◌≡◌, sym, subst, ◌∙◌}
use mathlib.Core.Bool.{Bool}
use mathlib.Core.List.{List}
use Prim.Native.Nat.{ℕ, ◌<◌}
use lib.ListN.{length, take}
use Rattle.std.proofs.Common.{Option, Some, None, map-id}
use Rattle.std.proofs.lemmas.Iterator.{YieldsList, YieldsList-from_take}
use Rattle.std.proofs.lemmas.Iterator.Consumers.{YieldsList-from_first, YieldsList-turn, YieldsList-end}
use Rattle.std.proofs.lemmas.List.Elements.{All-take, All-from_get_or}
use Rattle.std.specs.Iterator.{YieldsFirst, Yields}
use Rattle.std.specs.Iterator.Adapters.{take_source, take_count, take_steps}
use Rattle.std.specs.declared.iter.Take.{Take}
use Rattle.model.specs.Numbers.{picked}
use Rattle.model.proofs.Picked.{picked_below}
use Rattle.events.specs.declared.Linked.{Linked}
use Rattle.events.proofs.Links.{left}

-- the first m of them
module _ (p : ℕ → Bool) (n m : ℕ) (s : Take Linked) (q : left (take_source s) ≡ picked p n) (c : take_count s ≡ m) (xs : List ℕ) (t : Take Linked)
    (y : Yields (take_steps (YieldsFirst left)) s xs t) (r : Option ℕ) (u : Take Linked) (g : take_steps (YieldsFirst left) t r u) where
  walk : YieldsList (take_steps (YieldsFirst left)) (λ x. x) s (take m (picked p n))
  walk = YieldsList-from_take m (YieldsList-from_first (λ x. x) left (picked p n) q) c

  -- what it yields is below n
  pub one_of_first : (x : ℕ) → r ≡ Some x → x < n
  one_of_first x k =
      let w = YieldsList-turn walk xs t y r u x k g in
      let all = All-take (λ a. a < n) m (picked p n) (All-from_get_or (λ a. a < n) (picked p n) 0 (picked_below p n)) in
      subst (λ (a : ℕ). a < n) (sym w.1) (all (length xs) x w.0)

  -- at the end it has yielded all
  pub first_all : r ≡ None → xs ≡ take m (picked p n)
  first_all k = sym (map-id xs) ∙ (YieldsList-end walk xs t y r u k g).0
