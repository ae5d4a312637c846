-- The mark that a name gives: that of an entry is the entry's, in the other recording it is that of the twins, and that of both is
-- the same whichever recording is lent first.
-- Assumes nothing.
use Prim.Native.Nat.{ℕ, ◌<◌}
use mathlib.Core.Path.{◌≡◌, refl, sym, ap, ◌∙◌}
use mathlib.Core.Logic.{inl}
use mathlib.Core.List.{Memᴰ}
use native.Mathlib.Nat.{max_comm}
use Rattle.model.specs.Recording.{Recording, size}
use Rattle.model.specs.Recorded.{recorded}
use Rattle.model.specs.Pairs.{mark, Entry, listed}
use Rattle.model.specs.Together.{Named, name_of, mark_of, joint_mark, joint_entry}
use Rattle.model.proofs.Promise.{on_list, entry_inside}
use Rattle.model.proofs.Twins.{finds, Twin, twin_name}

mark_named : (E : Recording) (a b m : ℕ) → a < size E → b < size E
    → mark_of E (name_of E.events (record { first = a; second = b; mark = m })) ≡ mark E (recorded E) a b
unfolding mark_of name_of
mark_named E a b m k l = rw (finds E.events _ _ a k refl refl, finds E.events _ _ b l refl refl)

pub entry_mark : (E : Recording) (b : ℕ) (p : Entry) → Memᴰ p (listed E b) → mark_of E (name_of E.events p) ≡ p.mark
entry_mark E b p h =
    let (k, l) = entry_inside E b p h in
    mark_named E p.first p.second p.mark k l ∙ sym (on_list E b p.first p.second p.mark (inl h)).marked

pub twin_mark : (E F : Recording) (a b x y m : ℕ) → Twin E.events F.events a x → Twin E.events F.events b y
    → mark_of F (name_of E.events (record { first = a; second = b; mark = m })) ≡ mark F (recorded F) x y
twin_mark E F a b x y m v w = ap (mark_of F) (twin_name E.events F.events a b x y m m v w) ∙ mark_named F x y m v.right w.right

mark_turned : (E F : Recording) (p : Named) → joint_mark E F p ≡ joint_mark F E p
unfolding joint_mark
mark_turned E F p = max_comm (mark_of E p) (mark_of F p)

-- and so is the entry
pub entry_turned : (E F : Recording) (p : Named) → joint_entry E F p ≡ joint_entry F E p
unfolding joint_entry
entry_turned E F p = rw (mark_turned E F p)
