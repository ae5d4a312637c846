-- The starting vectors, row by row: those still to write, over what is there, give the whole.
-- Assumes nothing.
use Prim.Native.Nat.{ℕ, suc, ◌+◌, ◌-◌, ◌*◌, ◌≤◌, ◌<◌}
use mathlib.Core.Path.{◌≡◌, sym, ap, ◌∙◌}
use mathlib.Core.List.{List, [], ◌++◌, append-nil}
use native.Mathlib.Numerals.{add-one}
use native.Mathlib.Omega.{arith}
use lib.ListN.{length, length-append, drop_of_length-le}
use lib.Seq.{sets}
use Rattle.model.specs.Numbers.{list_from}
use Rattle.model.specs.Recording.{Recording, size, tasks, task_of}
use Rattle.model.specs.Vectors.{position, flat, start}
use Rattle.model.proofs.Climb.{start_shaped}
use Rattle.vectors.specs.Rows.{own_row}
use Rattle.vectors.proofs.Chunks.{own_length, flat_length}
use Rattle.model.proofs.Stores.{sets-append, sets_front}
use Rattle.passes.specs.Steps.{first_row}

-- the rows of event e and of all that follow
pub rows_from : Recording → ℕ → List ℕ
rows_from E e = flat (list_from (first_row E.counts E.events) e (size E - e))

pub rows_start : (E : Recording) → rows_from E 0 ≡ flat (start E)
unfolding rows_from start own_row
rows_start E =
    let k : size E - 0 ≡ size E = omega arith in
    rw k

rows_next : (E : Recording) (e : ℕ) → e < size E → rows_from E e ≡ first_row E.counts E.events e ++ rows_from E (e + 1)
unfolding rows_from list_from flat
rows_next E e h =
    let k : size E - e ≡ suc (size E - suc e) = omega arith in
    rw (add-one e, k)

pub rows_end : (E : Recording) (e : ℕ) → size E ≤ e → rows_from E e ≡ []
unfolding rows_from list_from flat
rows_end E e h =
    let k : size E - e ≡ 0 = omega arith in
    rw k

pub start_length : (E : Recording) → length (flat (start E)) ≡ size E * tasks E
start_length E = flat_length (size E) (tasks E) (start E) (start_shaped E)

pub row_fits : (E : Recording) (e : ℕ) → e < size E → tasks E ≤ length (rows_from E e)
row_fits E e h = rw (rows_next E e h) (omega (arith, length-append (first_row E.counts E.events e) (rows_from E (e + 1)), own_length (tasks E) (task_of E e) (position E.events e)))

-- one row is stored, and the later ones over it are the whole from e on
pub row_stored : (E : Recording) (e : ℕ) → e < size E → (v v' : List ℕ) (at : ℕ) → v' ≡ sets v at (first_row E.counts E.events e)
    → (sets v' (at + tasks E) (rows_from E (e + 1)) ≡ sets v at (rows_from E e)) × (at + tasks E + length (rows_from E (e + 1)) ≡ at + length (rows_from E e))
row_stored E e h v v' at q =
    let k : length (first_row E.counts E.events e) ≡ tasks E = own_length (tasks E) (task_of E e) (position E.events e) in (
      rw (rows_next E e h, q) (rw k at (sym (sets-append (first_row E.counts E.events e) (rows_from E (e + 1)) v at))),
      rw (rows_next E e h) (omega (arith, length-append (first_row E.counts E.events e) (rows_from E (e + 1)))),
    )

-- all are stored
pub start_stored : (E : Recording) (v : List ℕ) → length v ≡ size E * tasks E → sets v 0 (flat (start E)) ≡ flat (start E)
start_stored E v h =
    sets_front v (flat (start E)) (size E * tasks E) (start_length E) (omega arith)
    ∙ ap (λ (l : List ℕ). flat (start E) ++ l) (drop_of_length-le v {i = size E * tasks E} (omega arith))
    ∙ append-nil (flat (start E))
