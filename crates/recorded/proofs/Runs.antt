-- The recorded run, event by event.
-- Assumes nothing.
use Prim.Native.Nat.{ℕ, ◌+◌}
use mathlib.Core.Path.{◌≡◌, ap, ◌∙◌}
use native.Mathlib.Numerals.{add-one}
use Rattle.model.specs.Recording.{Recording, size}
use Rattle.model.specs.Vectors.{Vectors, start}
use Rattle.model.specs.Recorded.{recorded_to, recorded}
use Rattle.recorded.specs.Steps.{recorded_event}

pub record_start : (E : Recording) (X : Vectors) → X ≡ start E → X ≡ recorded_to E 0
unfolding recorded_to
record_start E X q = q

pub record_next : (E : Recording) (Y Z : Vectors) (e : ℕ) → Y ≡ recorded_to E e → Z ≡ recorded_event E Y e → Z ≡ recorded_to E (e + 1)
unfolding recorded_to recorded_event
record_next E Y Z e q r = rw (add-one e) (r ∙ ap (λ (W : Vectors). recorded_event E W e) q)

pub record_end : (E : Recording) (Y : Vectors) (e : ℕ) → e ≡ size E → Y ≡ recorded_to E e → Y ≡ recorded E
unfolding recorded
record_end E Y e q r = r ∙ ap (recorded_to E) q
