-- The accesses of each cell, gathered once in a chain of their places in an order.
-- Assumes nothing.
use Rattle.std.specs.Prelude.{ℕ, ◌<◌, ◌≡◌, true, List, length, get_or}
use Rattle.model.specs.File.{events_of}
use Rattle.events.specs.Chains.{access_of, Along, Nearest as NearestOf, Chained as ChainedOf}
use Rattle.model.specs.Recording.{event_in}

-- from m on the nearest place of an access of cell x is j; the length of the order where there is none
abbrev pub Nearest : List ℕ → List ℕ → ℕ → ℕ → ℕ → Type 0
Nearest s order x m j = NearestOf (access_of s order x) (length order) m j

-- an order of events, and the chains of the accesses of the cells below k along it
pub record Linked (s order : List ℕ) (k : ℕ) (chain : List ℕ) : Type 0 where
  pub along : Along s order
  pub chained : ChainedOf (access_of s order) (length order) k 0 chain

-- the event at place i stands in the chain of its cell, which is below k
pub record InChain (s order : List ℕ) (k i : ℕ) : Type 0 where
  pub placed : i < length order
  pub cell : (event_in (events_of s) (get_or order i 0)).object < k
  pub access : access_of s order (event_in (events_of s) (get_or order i 0)).object i ≡ true
