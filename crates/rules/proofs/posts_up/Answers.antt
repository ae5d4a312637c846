-- `rules::posts_up` meets its contract: the definition counts no 0 where there is none. Assumes nothing.
use mathlib.Core.Path.{ap, ◌∙◌}
use mathlib.Core.Bool.{not}
use Rattle.rules.proofs.Laws.{none_zero}
use Rattle.rules.proofs.posts_up.Goals as goal

pub returns : goal.returns
returns c =
    ap not c.contains.ensures.value ∙ none_zero c.args.posts.now
