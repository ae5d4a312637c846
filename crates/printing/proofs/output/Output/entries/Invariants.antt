-- `printing::output::Output::entries` meets its contract. The invariant: the first entries are put. Assumes nothing.
use Rattle.std.specs.Prelude.{◌≡◌}
use Rattle.model.specs.Numbers.{each}
use Rattle.printing.specs.Output.{Put}
use Rattle.printing.specs.Entries.{nth_line}
use Rattle.printing.proofs.output.Output.entries.Given as goal

abbrev pub invariant-loop-i : goal.invariant-loop-i
invariant-loop-i l = record {
  put : Put l.initial.self.bytes.now l.self.bytes.now l.initial.self.at (each (nth_line l.records l.list) l.i) l.self.at;
  same_output : l.self.bytes.ghost_name ≡ l.initial.self.bytes.ghost_name;
}
