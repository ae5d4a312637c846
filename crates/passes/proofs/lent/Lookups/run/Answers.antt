-- run meets its contract: the starting vectors are written, and then the passes made.
-- Assumes nothing.
use mathlib.Core.Path.{ap, ◌∙◌}
use Rattle.model.specs.Vectors.{flat}
use Rattle.model.proofs.Levels.{start_levels}
use Rattle.passes.proofs.lent.Lookups.run.Goals as goal

pub passes-requires : goal.passes-requires
passes-requires c =
    let x = c.start in
    record { fitting = x.auto.v ∙ c.requires; v_value = x.ensures ∙ ap flat (start_levels c.args.self.now.records.now c.args.self.now.counts c.args.self.now.levels.now) }
