-- follow_posts meets its contract: the posts followed so far are those that the walk has yielded.
-- Assumes nothing.
use mathlib.Core.Path.{◌≡◌}
use Rattle.passes.specs.Lookups.{vectors_over, Fits}
use Rattle.passes.specs.Steps.{taken}
use Rattle.recorded.proofs.follow_posts.Given as goal

abbrev pub invariant-loop-a : goal.invariant-loop-a
invariant-loop-a l =
    record {
      fitting : Fits l.look l.v;
      followed : vectors_over l.look l.v ≡ taken l.look.counts (vectors_over l.look l.initial.v) l.yielded l.e;
    }
