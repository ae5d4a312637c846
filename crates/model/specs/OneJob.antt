-- What is proved of every two recordings of one job (document 02, No. 4): whatever order the records arrived in, the settled vectors
-- and the listed pairs are the same, where an event is named by its task and its position; and what their one list promises.
-- Assumes nothing.
use Rattle.std.specs.Prelude.{ℕ, ◌<◌, ◌≡◌, true, ◌⊎◌, ◌↔◌, Option, Some, None, Ok}
use mathlib.Core.List.{List, Memᴰ}
use Rattle.model.specs.declared.Trailer.{Trailer}
use Rattle.model.specs.Recording.{start_of, post_of, Recording, size, tasks, cells, semaphores_of, flags_of, event}
use Rattle.model.specs.File.{recording_of}
use Rattle.model.specs.Reading.{reading_of}
use Rattle.model.specs.Orders.{Always, Sometimes}
use Rattle.model.specs.Vectors.{Vectors, number}
use Rattle.model.specs.Passes.{safe_vectors, is_settled}
use Rattle.model.specs.Pairs.{conflict}
use Rattle.model.specs.Together.{own_records, work_alike, at_position, Named, name_of, named_pairs, settled_pairs, joint_mark, joint_list}

-- the same work: the same tasks, semaphores, flags and cells, the same start counts and post counts, and each task has the same kinds
-- and objects in the same order
pub record SameWork (E F : Recording) : Type 0 where
  pub tasks : tasks E ≡ tasks F
  pub semaphores : semaphores_of E.counts ≡ semaphores_of F.counts
  pub flags : flags_of E.counts ≡ flags_of F.counts
  pub cells : cells E ≡ cells F
  pub starts : (s : ℕ) → start_of E.levels s ≡ start_of F.levels s
  pub posts : (g : ℕ) → post_of E.levels g ≡ post_of F.levels g
  pub records : (t : ℕ) → own_records E.events t ≡ own_records F.events t

-- the number for task u of an event that was looked for; 0 where there is none
abbrev pub number_found : Vectors → Option ℕ → ℕ → ℕ
number_found X (Some e) u = number X e u
number_found X None u = 0

-- the number for task u in the vector of task t's event at position p
abbrev pub number_at : Recording → Vectors → ℕ → ℕ → ℕ → ℕ
number_at E X t p u = number_found X (at_position E.events t p) u

-- what a run of E with budget b and one of F with budget d have in common
pub record Alike (E F : Recording) (b d : ℕ) : Type 0 where
  -- the vectors, named so, are equal
  pub vectors : (t p u : ℕ) → number_at E (safe_vectors E b) t p u ≡ number_at F (safe_vectors F d) t p u
  -- and so are the listed pairs, in the order of the list
  pub pairs : named_pairs E b ≡ named_pairs F d

-- the pair of the events a and b, by name
abbrev pub pair_of : Recording → ℕ → ℕ → Named
pair_of E a b = name_of E.events (record { first = a; second = b; mark = 0 })

-- the one list of E and F has an entry for the events a and b of E, in this order, with the mark m
abbrev pub NamedWith : Recording → Recording → ℕ → ℕ → ℕ → Type 0
NamedWith E F a b m = Memᴰ (pair_of E a b) (settled_pairs E) × (joint_mark E F (pair_of E a b) ≡ m)

-- the same in either order
abbrev pub OnJoint : Recording → Recording → ℕ → ℕ → ℕ → Type 0
OnJoint E F a b m = NamedWith E F a b m ⊎ NamedWith E F b a m

-- what the one list of E and F promises of E's own admissible orders
pub record JointPromise (E F : Recording) : Type 0 where
  -- of each conflicting pair off the list, the event recorded first comes first in every admissible order
  pub off_list : (a b : ℕ) → a < b → b < size E → conflict (event E a) (event E b) ≡ true
      → ((m : ℕ) → ¬ (OnJoint E F a b m)) → Always E a b
  -- each pair marked sure has an admissible order in which one event comes first and another in which the other does, also where
  -- the recording F alone makes it sure
  pub sure : (a b : ℕ) → OnJoint E F a b 1 → Sometimes E a b × Sometimes E b a

-- two files that reading accepts, of the same work
pub record OneJob (f g : List ℕ) : Type 0 where
  pub first_trailer : Trailer
  pub second_trailer : Trailer
  pub first_accepted : reading_of f ≡ Ok first_trailer
  pub second_accepted : reading_of g ≡ Ok second_trailer
  pub work : SameWork (recording_of f) (recording_of g)

-- proved as `together` in proofs/Together.antt
pub record Together : Type 0 where
  -- two recordings of one job settle alike
  pub alike : (f g : List ℕ) → OneJob f g → (b d : ℕ) → is_settled (recording_of f) b ≡ true → is_settled (recording_of g) d ≡ true
      → Alike (recording_of f) (recording_of g) b d
  -- their one list is the same whichever file is lent first
  pub turned : (f g : List ℕ) → OneJob f g → joint_list (recording_of f) (recording_of g) ≡ joint_list (recording_of g) (recording_of f)
  -- it promises of each of the two recordings what a recording's own list promises of that one
  pub promise : (f g : List ℕ) → OneJob f g
      → JointPromise (recording_of f) (recording_of g) × JointPromise (recording_of g) (recording_of f)
  -- 14 is answered exactly where two accepted files are not the same work
  pub differs : (f g : List ℕ) (h k : Trailer) → reading_of f ≡ Ok h → reading_of g ≡ Ok k
      → (work_alike (recording_of f) (recording_of g) ≡ Ok tt) ↔ SameWork (recording_of f) (recording_of g)
