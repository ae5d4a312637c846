-- The recording that the parts of a file hold.
-- Assumes nothing.
use Rattle.model.specs.Recording.{Recording}
use Rattle.model.specs.File.{recording_by}
use Rattle.events.specs.declared.Parts.{Parts}

abbrev pub recording_in : Parts → Recording
recording_in p = recording_by p.records.now p.counts p.levels.now
