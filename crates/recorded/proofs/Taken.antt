-- What an event of the recorded run takes: none, one more, and in the end all that it follows.
-- Assumes nothing.
use Prim.Native.Nat.{ℕ, ◌*◌, ◌<◌, zero-le}
use Rattle.std.specs.Prelude.{Option}
use mathlib.Core.Path.{◌≡◌, sym, ap, ◌∙◌}
use mathlib.Core.List.{List, [], ◌++◌}
use lib.ListN.{length}
use Rattle.model.specs.declared.Counts.{Counts}
use Rattle.model.specs.Numbers.{found, largest}
use Rattle.model.specs.Recording.{Recording, size, tasks}
use Rattle.model.specs.Vectors.{Vectors}
use Rattle.model.specs.Passes.{sources, step_one}
use Rattle.model.specs.Recorded.{matched, opened, causes}
use Rattle.model.proofs.Climb.{Shaped}
use Rattle.vectors.specs.Rows.{chunks}
use Rattle.vectors.proofs.Chunks.{chunks_shaped}
use Rattle.vectors.proofs.Raised.{raised_to_none}
use Rattle.passes.specs.Lent.{raised_found}
use Rattle.passes.specs.Steps.{taken}
use Rattle.passes.proofs.Taken.{taken_then, taken_found, three_taken, gathered_taken}
use Rattle.recorded.specs.Steps.{recorded_event}

-- to take none changes nothing
pub taken_none : (c : Counts) {n : ℕ} (X : Vectors) (e : ℕ) → Shaped n c.tasks X → e < n → taken c X [] e ≡ X
unfolding taken largest
taken_none c X e s h = raised_to_none e _ s h (λ t k. zero-le)

-- one found event taken in the flat list, after others
pub found_then : (c : Counts) (n : ℕ) (l k : List ℕ) (e : ℕ) (from : List ℕ) (f : Option ℕ) → length l ≡ n * c.tasks → length k ≡ n * c.tasks → e < n
    → chunks n c.tasks k ≡ taken c (chunks n c.tasks l) from e
    → chunks n c.tasks (raised_found c.tasks k e f) ≡ taken c (chunks n c.tasks l) (from ++ found f) e
found_then c n l k e from f p q h r =
    taken_found c n k e f q h
    ∙ ap (λ (Y : Vectors). taken c Y (found f) e) r
    ∙ taken_then c (chunks n c.tasks l) e (chunks_shaped n c.tasks l p) h from (found f)

-- the recorded vector: step 1, then the matched signal, then the first posts
pub record_event : (E : Recording) (X Y Z W : Vectors) (e : ℕ) → Shaped (size E) (tasks E) X → e < size E → Y ≡ step_one E X e
    → Z ≡ taken E.counts Y (found (matched E.levels E.events e)) e → W ≡ taken E.counts Z (opened E.levels E.events e) e
    → W ≡ recorded_event E X e
unfolding step_one recorded_event
record_event E X Y Z W e s h q r u =
    three_taken E.counts X Y Z W e s h (sources E.events e) _ _ (q ∙ gathered_taken E X (sources E.events e) e) r u
    ∙ sym (gathered_taken E X (causes E.levels E.events e) e)
