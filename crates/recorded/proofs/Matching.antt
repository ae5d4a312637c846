-- Laws of the matches in one look: how they start and go on by one event, and that the signal at hand is the matched one.
-- Assumes nothing.
use mathlib.Core.Path.{◌≡◌, ap, subst, ◌∙◌}
use Rattle.std.specs.Prelude.{Some, None}
use mathlib.Core.Bool.{Bool, true, false}
use mathlib.Core.List.{List}
use Prim.Native.Nat.{ℕ, ◌+◌, ◌-◌, ◌≤◌, ◌<◌, min}
use native.Mathlib.Omega.{arith}
use lib.Dec.{eqb}
use lib.ListN.{length, get_or, set, replicate, length-set, length-replicate, get_or-replicate}
use lib.Seq.{get_or-set_same, get_or-set_other}
use Rattle.model.specs.Numbers.{bit, tally, nth}
use Rattle.model.specs.File.{events_of}
use Rattle.model.specs.Passes.{events_on}
use Rattle.model.proofs.Tests.{cases, tests, fails, second, eqb-true, lt-ltb}
use Rattle.events.specs.Chains.{on_at, Nearest, head, slot_of, Chain, Gathered}
use Rattle.events.proofs.Laws.{tally_next}
use Rattle.recorded.specs.Matching.{signal_at, wait_at, AtHand, Matching}
use Rattle.recorded.proofs.Searches.{nth_here, nth_none}
use Rattle.passes.proofs.Walks.{tally_start, tally_skip, has_slots}
use Rattle.model.specs.Recording.{Levels, start_of, event_in, signal, wait}

-- ---- what is at hand

module _ (p : ℕ → Bool) (n : ℕ) where
  -- the first one
  pub hand_first : (b : ℕ) → Nearest p n 0 b → AtHand p n 0 b
  hand_first b r =
      let t = tally_skip p 0 b (omega arith) r.passed in
      let z = tally_start p in
      record { high = r.high; hit = r.hit; rank = λ _. omega arith; most = omega arith }

  -- it is taken, and the next one is at hand
  pub hand_next : (w a b : ℕ) → a < n → AtHand p n w a → Nearest p n (a + 1) b → AtHand p n (w + 1) b
  hand_next w a b k h r =
      let t = tally_skip p (a + 1) b r.low r.passed in
      let u = tally_next p a in
      let z = ap bit (h.hit k) in
      let q = h.rank k in
      record { high = r.high; hit = r.hit; rank = λ _. omega arith; most = omega arith }

  -- none is at hand, and none stays at hand
  pub none_next : (w b : ℕ) → n ≤ b → AtHand p n w b → AtHand p n (w + 1) b
  none_next w b l h = record { high = h.high; hit = h.hit; rank = λ k. absurd (omega arith); most = omega (arith, h.most) }

-- of the events of a kind on x, b is the one at place w
module _ (s : List ℕ) (kind x w b : ℕ) (h : AtHand (on_at s kind x) (length (events_of s)) w b) where
  pub hand_at : b < length (events_of s) → Some b ≡ nth (events_on (events_of s) kind x) w
  unfolding events_on
  hand_at l = nth_here (on_at s kind x) (length (events_of s)) w b l (h.hit l) (h.rank l)

  few : length (events_of s) ≤ b → tally (on_at s kind x) (length (events_of s)) ≤ w
  few l = let q : b ≡ length (events_of s) = omega (arith, h.high) in rw q at h.most

  pub hand_none : length (events_of s) ≤ b → None ≡ nth (events_on (events_of s) kind x) w
  unfolding events_on
  hand_none l = nth_none (on_at s kind x) (length (events_of s)) w (few l)

-- ---- the running state

-- where a semaphore's signals have their slot
signal_slot : (x : ℕ) → x < 64 → slot_of signal x ≡ x
unfolding slot_of
signal_slot x h = rw (lt-ltb x 64 h)

-- before the first event, by the signals' chains
pub start : (s : List ℕ) (levels : Levels) (chain : List ℕ) → Gathered s chain → Matching s levels 0 (replicate 64 0) chain
start s levels chain c =
    let of : (x : ℕ) → x < 64 → Chain (signal_at s x) (length (events_of s)) (head x) chain =
    λ x l. rw (signal_slot x l) at (c.each signal x (has_slots x l).0) in
    record {
      places = length-replicate {A = ℕ} 64 0;
      wide = c.wide;
      counted = λ x l. rw (get_or-replicate {A = ℕ} 64 x 0 0 l) (omega (arith, tally_start (wait_at s x)));
      heads = λ x l.
          let w : 0 ≡ tally (wait_at s x) 0 - start_of levels x = omega (arith, tally_start (wait_at s x)) in
          subst (λ (w : ℕ). AtHand (signal_at s x) (length (events_of s)) w (get_or chain (head x) 0)) w (hand_first (signal_at s x) (length (events_of s)) (get_or chain (head x) 0) (of x l).first);
      links = λ a x l m t. (of x m).next a l t;
    }

module _ (s : List ℕ) (levels : Levels) (e : ℕ) (unmatched chain : List ℕ) (m : Matching s levels e unmatched chain) where
  -- what is at hand on x with w signals before it
  abbrev Hand : ℕ → ℕ → ℕ → Type 0
  Hand x w b = AtHand (signal_at s x) (length (events_of s)) w b

  -- an event that is no wait
  pub next_other : ((x : ℕ) → wait_at s x e ≡ false) → Matching s levels (e + 1) unmatched chain
  next_other h =
      let q : (x : ℕ) → tally (wait_at s x) (e + 1) ≡ tally (wait_at s x) e = λ x. omega (arith, tally_next (wait_at s x) e, ap bit (h x)) in
      record {
        places = m.places;
        wide = m.wide;
        counted = λ x l. rw (q x) (m.counted x l);
        heads = λ x l. rw (q x) (m.heads x l);
        links = m.links;
      }

  -- a wait on y
  module _ (y : ℕ) (l : y < 64) (t : wait_at s y e ≡ true) where
    only : (x : ℕ) → (x ≡ y → ⊥) → wait_at s x e ≡ false
    only x d =
        let v = event_in (events_of s) e in
        let o = eqb-true v.object y (second (eqb v.kind wait) (eqb v.object y) t) in
        fails (wait_at s x e) (λ u. let z = eqb-true v.object x (second (eqb v.kind wait) (eqb v.object x) u) in d (omega arith))

    here : tally (wait_at s y) (e + 1) ≡ tally (wait_at s y) e + 1
    here = omega (arith, tally_next (wait_at s y) e, ap bit t)

    there : (x : ℕ) → (x ≡ y → ⊥) → tally (wait_at s x) (e + 1) ≡ tally (wait_at s x) e
    there x d = omega (arith, tally_next (wait_at s x) e, ap bit (only x d))

    -- what holds at y, and was kept at the others, holds at each
    at_each : (P : ℕ → ℕ → Type 0) → P y (tally (wait_at s y) e + 1) → (x : ℕ) → ((x ≡ y → ⊥) → P x (tally (wait_at s x) e)) → P x (tally (wait_at s x) (e + 1))
    at_each P h x k =
        cases (eqb x y)
        (λ u. let q : x ≡ y = omega tests in rw (q, here) h)
        (λ u. let d : x ≡ y → ⊥ = λ q. omega tests in rw (there x d) (k d))

    -- one of the first, as many as the start count
    pub next_early : get_or unmatched y 0 < start_of levels y → Matching s levels (e + 1) (set unmatched y (get_or unmatched y 0 + 1)) chain
    next_early h =
        let n = get_or unmatched y 0 + 1 in
        let z : tally (wait_at s y) e + 1 - start_of levels y ≡ tally (wait_at s y) e - start_of levels y = omega (arith, m.counted y l) in
        record {
          places = length-set unmatched y n ∙ m.places;
          wide = m.wide;
          counted = λ x k.
              at_each (λ x w. get_or (set unmatched y n) x 0 ≡ min (start_of levels x) w)
              (get_or-set_same unmatched y n 0 (omega (arith, m.places)) ∙ omega (arith, m.counted y l)) x
              (λ d. get_or-set_other unmatched y x n 0 (λ q. d (omega arith)) ∙ m.counted x k);
          heads = λ x k. at_each (λ x w. Hand x (w - start_of levels x) (get_or chain (head x) 0)) (rw z (m.heads y l)) x (λ d. m.heads x k);
          links = m.links;
        }

    -- a later one, and what is at hand there then
    pub next_later : start_of levels y ≤ get_or unmatched y 0 → (a : ℕ) → Hand y (tally (wait_at s y) e - start_of levels y + 1) a → length (events_of s) ≤ 1024
        → Matching s levels (e + 1) unmatched (set chain (head y) a)
    next_later h a n g =
        let z : tally (wait_at s y) e + 1 - start_of levels y ≡ tally (wait_at s y) e - start_of levels y + 1 = omega (arith, m.counted y l) in
        record {
          places = m.places;
          wide = length-set chain (head y) a ∙ m.wide;
          counted = λ x k. at_each (λ x w. get_or unmatched x 0 ≡ min (start_of levels x) w) (omega (arith, m.counted y l)) x (λ d. m.counted x k);
          heads = λ x k.
              at_each (λ x w. Hand x (w - start_of levels x) (get_or (set chain (head y) a) (head x) 0))
              (rw (z, get_or-set_same chain (head y) a 0 (omega (arith, m.wide))) n) x
              (λ d. rw (get_or-set_other chain (head y) (head x) a 0 (λ q. d (omega arith))) (m.heads x k));
          links = λ i x k j u. rw (get_or-set_other chain (head y) i a 0 (λ q. omega arith)) (m.links i x k j u);
        }

  -- the signal at hand is taken, and the next one is at hand
  pub taken_next : (y w a : ℕ) → y < 64 → a < length (events_of s) → Hand y w a → Hand y (w + 1) (get_or chain a 0)
  taken_next y w a l k h = hand_next (signal_at s y) (length (events_of s)) w a (get_or chain a 0) k h (m.links a y k l (h.hit k))
