-- `layout::trailer_bytes` meets its contract. The lowest four bytes of n are those of its two halves. Assumes nothing.
use Rattle.std.proofs.Common.{◌≡◌, ◌/◌, ◌%◌, arith, refl}
use Rattle.model.specs.Writing.{trailer_bytes}
use Rattle.layout.proofs.trailer_bytes.Goals as goal

pub returns : goal.returns
unfolding trailer_bytes
returns c =
    let n = c.args.n in
    let first : n % 65536 % 256 ≡ n % 256 = omega arith in
    let second : n % 65536 / 256 % 256 ≡ n / 256 % 256 = omega arith in
    let last : n / 65536 / 256 % 256 ≡ n / 16777216 % 256 = omega arith in
    rw (c.to_le_bytes-records.ensures, c.to_le_bytes-tasks.ensures, c.to_le_bytes-semaphores.ensures, c.to_le_bytes-cells.ensures, c.to_le_bytes-edition.ensures, first, second, last) refl
