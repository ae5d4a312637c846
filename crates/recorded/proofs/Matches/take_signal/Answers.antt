-- take_signal meets its contract: the first waits on a semaphore, as many as its start count, are counted; what is at hand is matched
-- with a later one. Assumes nothing.
use mathlib.Core.Path.{◌≡◌, refl, sym, ap, subst, ◌∙◌}
use Rattle.std.specs.Prelude.{Option, None}
use mathlib.Core.Bool.{true, false}
use Prim.Native.Nat.{ℕ, ◌+◌, ◌-◌, ◌≤◌, ◌<◌, min}
use native.Mathlib.Omega.{arith}
use lib.ListN.{length, get_or, set}
use lib.Seq.{set-get_or}
use Rattle.model.specs.declared.Event.{Event}
use Rattle.model.specs.Numbers.{tally, nth}
use Rattle.model.specs.Recording.{start_of, Recording, is_wait, event, signal, wait}
use Rattle.model.specs.File.{events_of, levels_by}
use Rattle.model.specs.Passes.{signals_on}
use Rattle.model.specs.Recorded.{matched}
use Rattle.model.proofs.Tests.{both, eq-eqb, ne_eqb}
use Rattle.events.specs.Chains.{head}
use Rattle.passes.specs.Lookups.{recording_of}
use Rattle.recorded.specs.Matching.{signal_at, wait_at, AtHand, Matching}
use Rattle.recorded.proofs.Searches.{matched_early, matched_later, matched_other}
use Rattle.recorded.proofs.Matching.{next_other, next_early, next_later, taken_next, none_next, hand_at, hand_none}
use Rattle.recorded.proofs.Matches.take_signal.Goals as goal
use Rattle.recorded.proofs.Matches.take_signal.Goals.{Else-w-ne-WAIT}

no_wait : (x : ℕ) (v : Event) → (v.kind ≡ wait → ⊥) → is_wait x v ≡ false
no_wait x v d = rw (ne_eqb v.kind wait d)

pub returns-then-w-ne-WAIT : goal.returns-then-w-ne-WAIT
returns-then-w-ne-WAIT c =
    let w = c.event_at-w.ensures in record {
      value = (matched_other (recording_of c.args.look.now) c.args.e (λ q. c.if-w-ne-WAIT.true (ap (λ (v : Event). v.kind) w ∙ q)), tt);
      cases = next_other _ _ _ _ _ c.requires.1 (λ x. sym (ap (is_wait x) w) ∙ no_wait x c.event_at-w.result c.if-w-ne-WAIT.true);
    }

-- a wait on the semaphore that its event names
module _ (c : Else-w-ne-WAIT) where
  abbrev E : Recording
  E = recording_of c.args.look.now

  abbrev v : Event
  v = c.event_at-w.result

  abbrev object : ℕ
  object = v.object

  kind : (event E c.args.e).kind ≡ wait
  kind = sym (ap (λ (w : Event). w.kind) c.event_at-w.ensures) ∙ c.if-w-ne-WAIT.false

  same : object ≡ (event E c.args.e).object
  same = ap (λ (w : Event). w.object) c.event_at-w.ensures

  small : object < 64
  small = omega (arith, same, c.args.look.now.prepared.placed.records.waits c.args.e c.requires.0 kind)

  waiting : wait_at c.args.look.now.records.now object c.args.e ≡ true
  waiting = sym (ap (is_wait object) c.event_at-w.ensures) ∙ both (eq-eqb v.kind wait c.if-w-ne-WAIT.false) (eq-eqb object object refl)

  -- the start count of semaphore x, and the waits on it before this one
  abbrev first : ℕ → ℕ
  first x = start_of E.levels x

  abbrev waits : ℕ → ℕ
  waits x = tally (wait_at c.args.look.now.records.now x) c.args.e

  abbrev unmatched : ℕ
  unmatched = get_or c.args.self.now.unmatched object 0

  counted : unmatched ≡ min (first object) (waits object)
  counted = c.requires.1.counted object small

  -- what is at hand on it with w signals before it
  abbrev Hand : ℕ → ℕ → Type 0
  Hand w a = AtHand (signal_at c.args.look.now.records.now object) (length (events_of c.args.look.now.records.now)) w a

  ready : Hand (waits object - first object) (get_or c.args.self.now.hand (head object) 0)
  ready = c.requires.1.heads object small

  early_match : unmatched < first object → None ≡ matched E.levels E.events c.args.e
  early_match h =
      let l : waits object < first object = omega (arith, counted) in
      matched_early E c.args.e kind (subst (λ (x : ℕ). waits x < first x) same l)

  later_match : first object ≤ unmatched → (f : Option ℕ) → f ≡ nth (signals_on E.events object) (waits object - first object)
      → f ≡ matched E.levels E.events c.args.e
  later_match h f q =
      let l : first object ≤ waits object = omega (arith, counted) in
      q ∙ ap (λ (x : ℕ). nth (signals_on E.events x) (waits x - first x)) same ∙ matched_later E c.args.e kind (subst (λ (x : ℕ). first x ≤ waits x) same l)

  -- the state after a later wait, by what is at hand then
  hand_then : first object ≤ unmatched → (a : ℕ) → Hand (waits object - first object + 1) a
      → Matching c.args.look.now.records.now (levels_by c.args.look.now.counts c.args.look.now.levels.now) (c.args.e + 1) c.args.self.now.unmatched (set c.args.self.now.hand (head object) a)
  hand_then h a n = next_later _ _ _ _ _ c.requires.1 object small waiting h a n c.args.look.now.prepared.placed.records.few

pub returns-then-self-x : goal.returns-then-self-x
returns-then-self-x c =
    let d = (goal.at.returns-then-self-x c).Else-w-ne-WAIT in
    let h : unmatched d < first d (object d) = omega (arith, c.start_of.ensures) in
    record { value = (early_match d h, tt); cases = next_early _ _ _ _ _ c.requires.1 (object d) (small d) (waiting d) h }

pub returns-then-look-a : goal.returns-then-look-a
returns-then-look-a c =
    let d = (goal.at.returns-then-look-a c).Else-w-ne-WAIT in
    let r = c.args.look.now.records.now in
    let chain = c.args.self.now.hand in
    let later : first d (object d) ≤ unmatched d = omega (arith, c.start_of.ensures) in
    let n : length (events_of r) ≤ get_or chain (head (object d)) 0 = omega (arith, c.args.look.now.prepared.placed.records.whole) in
    record {
      value = (later_match d later _ (hand_none r signal (object d) _ _ (ready d) n), tt);
      cases = rw (set-get_or chain (head (object d)) 0) at (hand_then d later _ (none_next (signal_at r (object d)) _ _ _ n (ready d)));
    }

-- a signal is at hand
pub returns : goal.returns
returns c =
    let d = (goal.at.returns c).Else-w-ne-WAIT in
    let r = c.args.look.now.records.now in
    let later : first d (object d) ≤ unmatched d = omega (arith, c.start_of.ensures) in
    let l : get_or c.args.self.now.hand (head (object d)) 0 < length (events_of r) = omega (arith, c.args.look.now.prepared.placed.records.whole) in
    record {
      value = (later_match d later _ (hand_at r signal (object d) _ _ (ready d) l), l);
      cases = hand_then d later _ (taken_next _ _ _ _ _ c.requires.1 (object d) _ _ (small d) l (ready d));
    }
