-- The events of an accepted file are those of its records' part.
-- Assumes nothing.
use Prim.Native.Nat.{ℕ}
use Rattle.std.specs.Prelude.{Ok}
use mathlib.Core.Path.{◌≡◌, ap, ◌∙◌}
use mathlib.Core.List.{List}
use Rattle.model.specs.declared.Trailer.{Trailer}
use Rattle.model.specs.File.{events_of, record_bytes, recording_of}
use Rattle.model.specs.Reading.{reading_of}
use Rattle.recording.proofs.Files.{accepted_is}
use Rattle.fennrolka.specs.Looking.{looked_among, looked_of}

pub of_accepted : (f : List ℕ) (h : Trailer) → reading_of f ≡ Ok h
    → (s : List ℕ) → s ≡ record_bytes f h → (e : ℕ) → looked_among (events_of s) e ≡ looked_of f e
unfolding looked_of recording_of
of_accepted f h q s p e = rw (q, p ∙ ap (record_bytes f) (accepted_is f h q).0)
