-- What the functions of this crate answer of lent records and vectors, and what comparing answers and leaves in the lent memory.
-- Assumes nothing.
use Rattle.std.specs.Prelude.{ℕ, ◌≡◌, Bool, false, List, Option, Some, None, Result}
use Rattle.model.specs.declared.Refusal.{Refusal}
use Rattle.model.specs.declared.Event.{Event}
use Rattle.model.specs.Vectors.{Vectors, ordered}
use Rattle.model.specs.Together.{at_position}
use Rattle.stretches.specs.declared.Stretch.{Stretch}
use Rattle.stretches.specs.declared.Lead.{Lead}
use Rattle.stretches.specs.Stretches.{lead_where, compared_of, work_after_comparing}

-- two events that were looked for are ordered
abbrev pub ordered_found : List Event → Vectors → Option ℕ → Option ℕ → Bool
ordered_found l X (Some a) (Some b) = ordered l X a b
ordered_found l X (Some a) None = false
ordered_found l X None g = false

-- the last event of r is ordered before the first of s
unfoldable pub ends_ordered : List Event → Vectors → Stretch → Stretch → Bool
ends_ordered l X r s = ordered_found l X (at_position l r.task r.last) (at_position l s.task s.first)

-- first, second or neither by these
abbrev pub lead_by_ends : List Event → Vectors → Stretch → Stretch → Lead
lead_by_ends l X r s = lead_where (ends_ordered l X r s) (ends_ordered l X s r)

-- comparing the stretches r and s of the file f with the budget b answers a, and leaves w' in the work numbers w
pub record ComparedAs (f : List ℕ) (r s : Stretch) (b : ℕ) (w : List ℕ) (a : Result Lead Refusal) (w' : List ℕ) : Type 0 where
  pub answer : a ≡ compared_of f r s b w
  pub work : w' ≡ work_after_comparing f r s b w
