-- raise_wait meets its contract: the part lent on is the candidates.
-- Assumes nothing.
use mathlib.Core.Path.{◌≡◌, sym, ap, ◌∙◌}
use mathlib.Core.List.{List}
use Prim.Native.Nat.{ℕ}
use native.Mathlib.Omega.{arith}
use lib.ListN.{length, take}
use lib.Seq.{take_at}
use Rattle.model.specs.File.{events_of}
use Rattle.vectors.specs.Rows.{chunks}
use Rattle.vectors.proofs.Chunks.{next_row}
use Rattle.passes.specs.Steps.{candidates_on}
use Rattle.passes.specs.Lookups.{vectors_over}
use Rattle.passes.proofs.Waits.{candidates_few, candidates_below, chunks_waited}
use Rattle.passes.proofs.lent.Lookups.raise_wait.Goals as goal
use Rattle.passes.proofs.lent.Lookups.raise_wait.Goals.{After-candidates-c}

-- the candidates are written
module _ (t : After-candidates-c) where
  abbrev listed : List ℕ
  listed = candidates_on (events_of t.args.self.now.records.now) (vectors_over t.args.self.now t.args.v.now) t.args.e t.args.kind t.args.x

  lent : take t.candidates-c.result t.candidates-c.new.out ≡ listed
  lent = ap (take t.candidates-c.result) t.candidates-c.ensures.out_after ∙ take_at listed _ _ (sym t.candidates-c.ensures.value)

pub raise_to_kth-requires : goal.raise_to_kth-requires
raise_to_kth-requires c =
    let a = c.args in
    let l = events_of a.self.now.records.now in
    let X = vectors_over a.self.now a.v.now in
    let m = a.self.now.counts.tasks in
    let few = candidates_few l X a.e a.kind a.x in
    rw (lent (goal.at.raise_to_kth-requires c).After-candidates-c) record {
      tasks_in_bounds = (omega (arith, next_row a.e (length l) m c.requires.1, c.requires.0), omega (arith, few, a.self.now.prepared.placed.records.few));
      by_index = λ i h. omega (arith, next_row _ (length l) m (candidates_below l X a.e a.kind a.x i h), c.requires.0);
    }

pub returns : goal.returns
returns c =
    let a = c.args in
    let l = events_of a.self.now.records.now in
    let f = c.raise_to_kth in record {
      becomes = ap (chunks (length l) a.self.now.counts.tasks) f.ensures.v_after
          ∙ chunks_waited a.self.now.counts l a.v.now a.e a.kind a.x a.k _ c.requires.0 c.requires.1 (lent (goal.at.returns c).After-candidates-c);
      rose = f.ensures.rose;
    }
