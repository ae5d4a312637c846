-- The level bytes of a file as a part of it: what start bytes and post bytes are cut from.
-- Assumes nothing.
use Rattle.std.specs.Prelude.{List, [], ℕ}
use Rattle.model.specs.Refusals.{after}
use Rattle.model.specs.File.{trailer_of, level_bytes}
use Rattle.model.specs.Reading.{file_check}

-- of a refused file, the empty part
unfoldable pub level_part : List ℕ → List ℕ
level_part f = after (file_check f) (λ _. level_bytes f (trailer_of f)) []
