-- What holding two recordings against each other is lent, and what it keeps: for each event of the first its counterpart in the second.
-- Assumes nothing.
use Rattle.std.specs.Prelude.{ℕ, ◌*◌, ◌/◌, ◌≤◌, ◌<◌, ◌≡◌, Bool, ◌&&◌, List, length, get_or}
use Rattle.model.specs.declared.Event.{Event}
use Rattle.model.specs.declared.Counts.{Counts}
use Rattle.model.specs.Recording.{semaphores_of, flags_of, event_in}
use Rattle.model.specs.File.{levels_by}
use Rattle.model.specs.Reading.{most_events}
use Rattle.model.specs.Vectors.{position}
use Rattle.model.specs.Together.{same_counts, same_levels}
use Rattle.events.specs.Chains.{by_task, Chained}

-- the same counts c and d, and start counts and post counts of the level bytes b and g
unfoldable pub same_resources : Counts → List ℕ → Counts → List ℕ → Bool
same_resources c b d g =
    same_counts c d && same_levels (levels_by c b).starts (levels_by d g).starts (semaphores_of c)
    && same_levels (levels_by c b).posts (levels_by d g).posts (flags_of c)

-- at most 1,024 records, and their tasks' chains
pub record TaskChains (s chain : List ℕ) : Type 0 where
  pub few : length s ≤ 4 * most_events
  pub chained : Chained (by_task s) (length s / 4) 256 0 chain

-- for each event of l the event of m that has its task and position, and so its kind and object
pub record Counterparts (l m : List Event) (kept : List ℕ) : Type 0 where
  -- each event of l has a place
  pub room : length l ≤ length kept
  -- what stands there is an event of m
  pub inside : (e : ℕ) → e < length l → get_or kept e 0 < length m
  -- with the same task, kind and object
  pub same : (e : ℕ) → e < length l → event_in m (get_or kept e 0) ≡ event_in l e
  -- at the same position
  pub placed : (e : ℕ) → e < length l → position m (get_or kept e 0) ≡ position l e
