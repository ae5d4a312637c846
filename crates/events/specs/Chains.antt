-- Events gathered once, by the object that they name: a chain for each object, from the first of its events to the last, of
-- their places in the file or in another order.
-- Assumes nothing.
use Rattle.std.specs.Prelude.{ℕ, ◌+◌, ◌≤◌, ◌<◌, ◌≡◌, Bool, true, false, cond, not, ◌&&◌, ◌||◌, List, leb, ltb, eqb, length, get_or, set}
use Rattle.model.specs.declared.Event.{Event}
use Rattle.model.specs.File.{events_of}
use Rattle.model.specs.Recording.{event_in, of_task, is_on, signal, wait, post}
use Rattle.model.specs.Reading.{most_semaphores, most_flags, most_events}
use Rattle.model.specs.Pairs.{is_access, is_access_of}

-- the event at place i of an order of the events of the record bytes s is an access of cell x
abbrev pub access_of : List ℕ → List ℕ → ℕ → ℕ → Bool
access_of s order x i = is_access_of x (event_in (events_of s) (get_or order i 0))

-- event i of the record bytes s is of task t
abbrev pub by_task : List ℕ → ℕ → ℕ → Bool
by_task s t i = of_task t (event_in (events_of s) i)

-- an order of at most 1,024 events, each of the record bytes s
pub record Along (s order : List ℕ) : Type 0 where
  pub few : length order ≤ most_events
  pub numbered : (i : ℕ) → i < length order → get_or order i 0 < length (events_of s)

-- from m on the nearest number below n that passes the test is b; n where there is none
pub record Nearest (p : ℕ → Bool) (n m b : ℕ) : Type 0 where
  pub low : m ≤ b
  pub high : b ≤ n
  pub passed : (i : ℕ) → m ≤ i → i < b → p i ≡ false
  pub hit : b < n → p b ≡ true

-- the place of an object in the chains: behind the places of the events
abbrev pub head : ℕ → ℕ
head x = 1024 + x

-- place i put first in the chain of the object x
abbrev pub put_first : ℕ → ℕ → List ℕ → List ℕ
put_first x i chain = set (set chain i (get_or chain (head x) 0)) (head x) i

-- the event v is no access, or its object is not below k
abbrev pub left_out : ℕ → Event → Bool
left_out k v = not (is_access v) || leb k v.object

-- place i, that of the event v, put first in the chain of its object, unless v is left out
unfoldable pub linked : ℕ → Event → ℕ → List ℕ → List ℕ
linked k v i chain = cond (left_out k v) chain (put_first v.object i chain)

-- the running state, the chains of the objects below k over the places from e on, of n: at an object's place the nearest
-- from e on, and at a place in a chain the nearest behind it
pub record Chained (p : ℕ → ℕ → Bool) (n k e : ℕ) (chain : List ℕ) : Type 0 where
  pub wide : length chain ≡ 2048
  pub heads : (x : ℕ) → x < k → Nearest (p x) n e (get_or chain (head x) 0)
  pub links : (a x : ℕ) → e ≤ a → a < n → x < k → p x a ≡ true → Nearest (p x) n (a + 1) (get_or chain a 0)

-- ---- the chains of a call: signals and waits of each semaphore, posts of each flag

-- how many slots they have; in one more are all other events
abbrev pub slots : ℕ
slots = 192

-- the slot of the events of this kind on the object x
unfoldable pub slot_of : ℕ → ℕ → ℕ
slot_of kind x =
    cond (eqb kind signal && ltb x most_semaphores) x
    (cond (eqb kind wait && ltb x most_semaphores) (64 + x) (cond (eqb kind post && ltb x most_flags) (128 + x) slots))

-- event i of the record bytes s is of this kind and on the object x
abbrev pub on_at : List ℕ → ℕ → ℕ → ℕ → Bool
on_at s kind x i = is_on kind x (event_in (events_of s) i)

-- a chain that starts at place h, of the numbers below n that pass the test
pub record Chain (p : ℕ → Bool) (n h : ℕ) (chain : List ℕ) : Type 0 where
  pub first : Nearest p n 0 (get_or chain h 0)
  pub next : (a : ℕ) → a < n → p a ≡ true → Nearest p n (a + 1) (get_or chain a 0)

-- in each slot the events of its kind on its object
pub record Gathered (s chain : List ℕ) : Type 0 where
  pub wide : length chain ≡ 2048
  pub each : (kind x : ℕ) → slot_of kind x < slots → Chain (on_at s kind x) (length (events_of s)) (head (slot_of kind x)) chain
