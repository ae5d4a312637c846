-- What the report fills is part of the output.
use Rattle.printing.proofs.Putting.{filling_within}
use Rattle.analyse.proofs.main.Goals as goal

pub slice_bounds-write_all-end : goal.slice_bounds-write_all-end
slice_bounds-write_all-end c = filling_within _ _ _ _ c.report-printed.ensures.value c.report-printed.ensures.out_after
