-- Numbers laid at the front of what is lent, as many as there is room for.
-- Assumes nothing.
use Rattle.std.proofs.Common.{◌≡◌, ℕ, ◌≤◌, ◌<◌, min, List, ◌++◌, length, take, drop, arith}
use lib.Dec.{leb}
use lib.ListN.{drop_of_length-le}
use lib.Seq.{take_all}
use Rattle.model.proofs.Tests.{cases, leb-true, leb-false}
use Rattle.model.specs.Report.{laid}

pub laid_front : (ns l m : List ℕ) (k : ℕ) → k ≡ min (length ns) (length l) → m ≡ take k ns → m ++ drop k l ≡ laid ns l
unfolding laid
laid_front ns l m k e p =
    cases (leb (length ns) (length l))
    (λ t.
    let h : length ns ≤ length l = leb-true _ _ t in
    let f : k ≡ length ns = omega arith in
    rw (p, f, take_all (length ns) ns (omega arith), take_all (length l) ns h)
    )
    (λ t.
    let h : length l < length ns = leb-false _ _ t in
    let f : k ≡ length l = omega arith in
    rw (p, f, drop_of_length-le l {i = length l} (omega arith), drop_of_length-le l {i = length ns} (omega arith))
    )
