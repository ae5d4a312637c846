-- What the functions below `analyse_both` are lent, and what they hand back.
-- Assumes nothing.
use Rattle.std.specs.Prelude.{ℕ, ◌*◌, ◌≡◌, ◌&&◌, List, ◌++◌, length, drop, Result, Ok, Err}
use Rattle.model.specs.declared.Refusal.{Refusal}
use Rattle.model.specs.File.{trailer_of, recording_of}
use Rattle.model.specs.Reading.{file_check, reading_of}
use Rattle.model.specs.Refusals.{Check, unless, and_then, after}
use Rattle.model.specs.Recording.{Recording}
use Rattle.model.specs.Analysing.{work_fits}
use Rattle.model.specs.Together.{settled_in, settled_pairs, joint_fits, joint_list, joint_by}
use Rattle.events.specs.declared.Parts.{Parts}
use Rattle.events.specs.Parts.{recording_in}
use Rattle.work.specs.Lent.{Ready}

-- the parts p of the file f, which reading accepts
pub record AcceptedParts (f : List ℕ) (p : Parts) : Type 0 where
  pub read : reading_of f ≡ Ok (trailer_of f)
  pub ready : Ready p.records.now p.counts
  pub recording : recording_in p ≡ recording_of f

-- they are handed back, or what the file is refused with
abbrev pub PartsOf : List ℕ → Result Parts Refusal → Type 0
PartsOf f (Ok p) = AcceptedParts f p
PartsOf f (Err r) = file_check f ≡ Err r

-- 9 where either work memory is too short, then 10
abbrev pub room_check : Recording → Recording → List ℕ → List ℕ → Check
room_check E F v w = unless (work_fits E v && work_fits F w) Refusal.Work λ _. Ok tt

abbrev pub list_check : Recording → List ℕ → Check
list_check E l = unless (joint_fits E l) (Refusal.List (length (settled_pairs E))) λ _. Ok tt

-- recordings E and F of the same work, with the work memories v and w and the list l: the answer is a, and v', w' and l' are left
pub record Settled (E F : Recording) (v w l : List ℕ) (a : Result ℕ Refusal) (v' w' l' : List ℕ) : Type 0 where
  pub answer : a ≡ joint_by E (and_then (room_check E F v w) λ _. list_check E l)
  pub first : v' ≡ after (room_check E F v w) (λ _. settled_in E v) v
  pub second : w' ≡ after (room_check E F v w) (λ _. settled_in F w) w
  pub list : l' ≡ after (and_then (room_check E F v w) λ _. list_check E l) (λ _. joint_list E F ++ drop (5 * length (settled_pairs E)) l) l
