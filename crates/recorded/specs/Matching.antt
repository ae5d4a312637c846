-- The matches of the recorded run, in one look: the first waits on a semaphore, as many as its start count, take no signal; each
-- later one takes the signal at hand, and the next one is at hand. A flag wait takes the first posts at hand, and they stay.
-- Assumes nothing.
use Rattle.std.specs.Prelude.{ℕ, ◌+◌, ◌-◌, ◌≤◌, ◌<◌, min, ◌≡◌, Bool, true, List, length, get_or}
use Rattle.model.specs.Numbers.{tally}
use Rattle.model.specs.Recording.{Levels, start_of, signal, wait}
use Rattle.model.specs.File.{events_of, levels_by}
use Rattle.events.specs.Chains.{on_at, Nearest, head}
use Rattle.passes.specs.declared.lent.Lookups.{Lookups}
use Rattle.recorded.specs.declared.Matches.{Matches}

-- event i of the record bytes s is a signal, or a wait, on semaphore x
abbrev pub signal_at : List ℕ → ℕ → ℕ → Bool
signal_at s x i = on_at s signal x i

abbrev pub wait_at : List ℕ → ℕ → ℕ → Bool
wait_at s x i = on_at s wait x i

-- b is the number below n that passes the test with w such numbers below it; n where there is none
pub record AtHand (p : ℕ → Bool) (n w b : ℕ) : Type 0 where
  pub high : b ≤ n
  pub hit : b < n → p b ≡ true
  pub rank : b < n → tally p b ≡ w
  pub most : tally p b ≤ w

-- the running state after the events below e, with these levels: for each semaphore how many waits have had no signal, and at its
-- place in the chains the signal at hand; at a signal's place the next one
pub record Matching (s : List ℕ) (levels : Levels) (e : ℕ) (unmatched chain : List ℕ) : Type 0 where
  pub places : length unmatched ≡ 64
  pub wide : length chain ≡ 2048
  pub counted : (x : ℕ) → x < 64 → get_or unmatched x 0 ≡ min (start_of levels x) (tally (wait_at s x) e)
  pub heads : (x : ℕ) → x < 64 → AtHand (signal_at s x) (length (events_of s)) (tally (wait_at s x) e - start_of levels x) (get_or chain (head x) 0)
  pub links : (a x : ℕ) → a < length (events_of s) → x < 64 → signal_at s x a ≡ true → Nearest (signal_at s x) (length (events_of s)) (a + 1) (get_or chain a 0)

-- the running state of these matches, after the events below e of what is looked up
abbrev pub MatchedTo : Lookups → ℕ → Matches → Type 0
MatchedTo p e m = Matching p.records.now (levels_by p.counts p.levels.now) e m.unmatched m.hand
