-- conflict meets its contract: it is the definition, test by test. Assumes nothing.
use mathlib.Core.Path.{◌≡◌}
use mathlib.Core.Bool.{Bool, not, ◌&&◌, ◌||◌}
use lib.Dec.{eqb}
use Rattle.model.specs.declared.Event.{Event}
use Rattle.model.specs.Pairs.{is_write, is_access, is_single, conflict}
use Rattle.pairs.proofs.conflict.Goals as goal

tests : (v w : Event) (a b x y m n : Bool) → a ≡ is_access v → b ≡ is_access w → x ≡ is_write v → y ≡ is_write w → m ≡ is_single v → n ≡ is_single w
    → (a && b && eqb v.object w.object && not (eqb v.task w.task) && (x || y) && not (m && n)) ≡ conflict v w
unfolding conflict
tests v w a b x y m n p q r s t u = rw (p, q, r, s, t, u)

pub returns : goal.returns
returns c =
    tests _ _ _ _ _ _ _ _ c.is_access.ensures c.is_access-2.ensures c.is_write.ensures c.is_write-2.ensures
    c.is_single.ensures c.is_single-2.ensures
