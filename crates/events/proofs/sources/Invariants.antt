-- `events::sources` meets its contract: what is kept for the first e events is right. Assumes nothing.
use mathlib.Core.Path.{◌≡◌}
use Prim.Native.Nat.{ℕ, ◌*◌, ◌/◌, ◌%◌, ◌≤◌, ◌<◌}
use lib.ListN.{length, get_or}
use Rattle.model.specs.File.{events_of}
use Rattle.events.specs.Kept.{found_below, source_of}
use Rattle.events.proofs.sources.Given as goal

abbrev pub invariant-loop-e : goal.invariant-loop-e
invariant-loop-e l =
    record {
      wide : length l.kept ≡ 3072;
      low : (a : ℕ) → get_or l.kept a 0 ≤ l.n;
      kept : (a : ℕ) → a < 3 * l.e → found_below l.n (get_or l.kept a 0) ≡ source_of (events_of l.records) (a / 3) (a % 3);
    }
