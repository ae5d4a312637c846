-- step_two meets its contract: a wait of either kind is raised by what serves it; any other event needs none, and is raised to nothing.
-- Assumes nothing.
use mathlib.Core.Path.{◌≡◌, sym, ap, ◌∙◌}
use Prim.Native.Nat.{◌<◌}
use native.Mathlib.Omega.{arith}
use Rattle.model.specs.declared.Event.{Event}
use Rattle.model.specs.Recording.{Recording, size, event_in, wait, flag_wait}
use Rattle.model.specs.Vectors.{Vectors}
use Rattle.model.specs.Passes.{serving}
use Rattle.vectors.proofs.Chunks.{chunks_shaped}
use Rattle.vectors.proofs.Rising.{rose_none}
use Rattle.passes.proofs.Waits.{wait_raised, needed_wait, needed_flag, other_kept}
use Rattle.passes.proofs.Walks.{has_slots}
use Rattle.passes.specs.Lookups.{recording_of, vectors_over}
use Rattle.passes.proofs.lent.Lookups.step_two.Goals as goal
use Rattle.passes.proofs.lent.Lookups.step_two.Goals.{After-event_at-w}

-- the event e is at hand
module _ (t : After-event_at-w) where
  abbrev E : Recording
  E = recording_of t.args.self.now

  abbrev X : Vectors
  X = vectors_over t.args.self.now t.args.v.now

  -- a wait is on a semaphore below 64, a flag wait on a flag below 64
  kind : t.event_at-w.result.kind ≡ (event_in E.events t.args.e).kind
  kind = ap (λ (v : Event). v.kind) t.event_at-w.ensures

  same : t.event_at-w.result.object ≡ (event_in E.events t.args.e).object
  same = ap (λ (v : Event). v.object) t.event_at-w.ensures

  on_semaphore : t.event_at-w.result.kind ≡ wait → t.event_at-w.result.object < 64
  on_semaphore q = omega (arith, same, t.args.self.now.prepared.placed.records.waits t.args.e t.requires.1 (sym kind ∙ q))

  on_flag : t.event_at-w.result.kind ≡ flag_wait → t.event_at-w.result.object < 64
  on_flag q = omega (arith, same, t.args.self.now.prepared.placed.records.flag_waits t.args.e t.requires.1 (sym kind ∙ q))

pub raise_wait-requires : goal.raise_wait-requires
raise_wait-requires c =
    let x = on_semaphore (goal.at.raise_wait-requires c).After-event_at-w c.if-w-eq-WAIT.true in
    (c.requires.0, c.requires.1, omega (arith, has_slots _ x))

pub returns-then-w-eq-WAIT : goal.returns-then-w-eq-WAIT
returns-then-w-eq-WAIT c =
    let t = (goal.at.returns-then-w-eq-WAIT c).After-event_at-w in
    let f = c.raise_wait in
    record {
      becomes = wait_raised (E t) (X t) _ _ c.event_at-w.ensures _ _ _ f.ensures.becomes (ap serving c.if-w-eq-WAIT.true) (c.needed-k.ensures ∙ needed_wait (E t) (X t) _ _ c.event_at-w.ensures c.if-w-eq-WAIT.true);
      rose = f.ensures.rose;
    }

pub raise_wait-requires-then-w-eq-FLAG_WAIT : goal.raise_wait-requires-then-w-eq-FLAG_WAIT
raise_wait-requires-then-w-eq-FLAG_WAIT c =
    let g = on_flag (goal.at.raise_wait-requires-then-w-eq-FLAG_WAIT c).After-event_at-w c.if-w-eq-FLAG_WAIT.true in
    (c.requires.0, c.requires.1, omega (arith, has_slots _ g))

pub returns-then-w-eq-FLAG_WAIT : goal.returns-then-w-eq-FLAG_WAIT
returns-then-w-eq-FLAG_WAIT c =
    let t = (goal.at.returns-then-w-eq-FLAG_WAIT c).After-event_at-w in
    let f = c.raise_wait-then-w-eq-FLAG_WAIT in
    record {
      becomes = wait_raised (E t) (X t) _ _ c.event_at-w.ensures _ _ _ f.ensures.becomes (ap serving c.if-w-eq-FLAG_WAIT.true) (c.post_of-k.ensures ∙ needed_flag (E t) (X t) _ _ c.event_at-w.ensures c.if-w-eq-FLAG_WAIT.true);
      rose = f.ensures.rose;
    }

pub returns : goal.returns
returns c =
    let t = (goal.at.returns c).After-event_at-w in
    let a = c.args in
    record {
      becomes = other_kept (E t) (X t) a.e _ c.event_at-w.ensures (chunks_shaped (size (E t)) a.self.now.counts.tasks a.v.now c.requires.0) c.requires.1
          c.if-w-eq-WAIT.false c.if-w-eq-FLAG_WAIT.false;
      rose = rose_none a.v.now;
    }
