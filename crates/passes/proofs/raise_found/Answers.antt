-- raise_found meets its contract.
-- Assumes nothing.
use mathlib.Core.Path.{sym, ap, ◌∙◌}
use Rattle.passes.specs.Lent.{raised_found}
use Rattle.vectors.proofs.Rising.{rose_none}
use Rattle.passes.proofs.raise_found.Goals as goal

pub returns-in-Some : goal.returns-in-Some
returns-in-Some c =
    let a = c.args in
    let f = c.raise_row in
    record { v_after = f.ensures.v_after ∙ sym (ap (raised_found a.tasks a.v.now a.e) c.in-Some.is); rose = f.ensures.rose }

pub returns-in-None : goal.returns-in-None
returns-in-None c =
    let a = c.args in
    record { v_after = sym (ap (raised_found a.tasks a.v.now a.e) c.in-None.is); rose = rose_none a.v.now }
