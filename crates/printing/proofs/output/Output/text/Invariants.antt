-- `printing::output::Output::text` meets its contract. The invariant: the first bytes of the text are put. Assumes nothing.
use Rattle.std.specs.Prelude.{take, ◌≡◌}
use Rattle.printing.specs.Output.{Put}
use Rattle.printing.proofs.output.Output.text.Given as goal

abbrev pub invariant-loop-byte : goal.invariant-loop-byte
invariant-loop-byte l = record {
  put : Put l.initial.self.bytes.now l.self.bytes.now l.initial.self.at (take l.byte-index l.text) l.self.at;
  same_output : l.self.bytes.ghost_name ≡ l.initial.self.bytes.ghost_name;
}
