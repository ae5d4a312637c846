-- An order that shows a pair reversed: the written file holds the records in the order that brings the chosen event forward, which
-- is admissible, so that reading accepts it; and the pairs that are answered so are those that the recorded vectors do not order.
-- Assumes nothing.
use Prim.Native.Nat.{ℕ, ◌≤◌, ◌<◌}
use Rattle.std.specs.Prelude.{Ok}
use mathlib.Core.Path.{◌≡◌, sym, ap, subst, ◌∙◌}
use mathlib.Core.Bool.{true, not}
use mathlib.Core.List.{List, ◌++◌}
use native.Mathlib.Omega.{arith}
use lib.Dec.{ltb, eqb}
use lib.ListN.{length, take, drop}
use lib.Seq.{take_at, drop_at}
use Rattle.model.specs.Recording.{size, event, Accepted}
use Rattle.model.specs.File.{trailer_of, record_bytes, level_bytes, recording_by, recording_of}
use Rattle.model.specs.Reading.{file_check, reading_of}
use Rattle.model.specs.Acceptable.{InRange}
use Rattle.model.specs.Orders.{in_order, Admissible}
use Rattle.model.specs.Vectors.{unordered}
use Rattle.model.specs.Recorded.{recorded}
use Rattle.model.specs.Pairs.{conflict, OnList}
use Rattle.model.specs.Analysing.{work_fits}
use Rattle.model.specs.Question.{two_events, asked_check, question_check}
use Rattle.model.specs.Writing.{records_in, file_in}
use Rattle.model.specs.Reversed.{bring_forward, reversed_file, reversed_length, reversed_check, reversed_of, out_after_reversing}
use Rattle.model.specs.Shown.{Shows, Shown}
use Rattle.model.proofs.Tests.{of-not, to_not, both, all_three, le-leb, lt-ltb, ltb-true, eqb-false, ne_eqb}
use Rattle.model.proofs.Checks.{unless_passed, then_passed}
use Rattle.model.proofs.Place.{length_once, element}
use Rattle.model.proofs.Forward.{forward_admissible}
use Rattle.model.proofs.Files.{Sound, sound, reading_passed, bytes_length, size_records}
use Rattle.model.proofs.Acceptable.{known, ranged}
use Rattle.model.proofs.Promise.{Free, free_turned, sure_free, free_first, free_listed}
use Rattle.model.proofs.RoundTrip.{file_length_lem, own_levels, own_joined, written_by_lem}
use Rattle.model.proofs.Picking.{Within, in_length, obeying_accepted, accepted_in}

-- ---- the file that is written

abbrev order : List ℕ → ℕ → List ℕ
order f x = bring_forward (recording_of f).events (recorded (recording_of f)) x

module _ (f : List ℕ) (ok : Sound f) (x : ℕ) (inside : x < size (recording_of f)) where
  admissible : Admissible (recording_of f) (order f x)
  admissible = forward_admissible (recording_of f) ok.accepted x inside

  -- it has all the records
  order_length : length (order f x) ≡ (trailer_of f).records
  order_length = length_once (size (recording_of f)) (order f x) admissible.once ∙ size_records f ok

  reversed_length_lem : length (reversed_file f x) ≡ reversed_length f
  unfolding reversed_file
  reversed_length_lem =
      let s = record_bytes f (trailer_of f) in
      let n = in_length s (order f x) in
      let m = order_length in
      let l = bytes_length f ok in
      file_length_lem (records_in s (order f x)) (trailer_of f).counts (level_bytes f (trailer_of f)) ∙ omega arith

  -- and reading accepts them in this order
  accepted : (reading_of (reversed_file f x) ≡ Ok (record { start = 0; records = length (order f x); counts = (trailer_of f).counts }))
      × (recording_of (reversed_file f x) ≡ in_order (recording_of f) (order f x))
  unfolding reversed_file recording_of
  accepted =
      let within : Within (size (recording_of f)) (order f x) = λ i l. (element (size (recording_of f)) (order f x) admissible.once i l).0 in
      let s = record_bytes f (trailer_of f) in
      let c = (trailer_of f).counts in
      let b = (recording_of f).levels.starts in
      let p = (recording_of f).levels.posts in
      subst
      (λ (l : List ℕ).
      (reading_of (file_in s (order f x) c l) ≡ Ok (record { start = 0; records = length (order f x); counts = c }))
      × (recording_of (file_in s (order f x) c l) ≡ in_order (recording_by s c l) (order f x)))
      (own_joined f)
      (accepted_in s (order f x) within c b p (known c ok.some_edition ok.no_later)
      (ranged c (length (order f x)) (subst (InRange c) (sym order_length) ok.range)) ok.posts (own_levels f ok)
      (subst (λ (l : List ℕ). Accepted (in_order (recording_by s c l) (order f x))) (sym (own_joined f))
      (obeying_accepted (recording_of f) ok.accepted (order f x) within admissible.rules)))

  shows : (y : ℕ) → Free (recording_of f) x y → Shows f x y (reversed_file f x)
  shows y r =
      record {
        accepted = accepted.0 ∙ ap (λ (k : ℕ). Ok (record { start = 0; records = k; counts = (trailer_of f).counts })) order_length;
        order = order f x;
        holds = accepted.1;
        admissible = admissible;
        earlier = free_first (recording_of f) ok.accepted x y r;
      }

-- ---- the call

module _ (f : List ℕ) (x y : ℕ) (work out : List ℕ) where
  -- where its check passes, the recorded vectors do not order the two events
  passed : reversed_check f x y work out ≡ Ok tt → Sound f × Free (recording_of f) x y
  unfolding reversed_check question_check asked_check
  passed h =
      let E = recording_of f in
      let (asked, a) = then_passed (question_check f x y work) _ h in
      let (file, b) = then_passed (file_check f) _ asked in
      let (two, _) = unless_passed (two_events E x y) _ _ b in
      let (free, _) = unless_passed (unordered E.events (recorded E) x y) _ _ a in
      let (i, j, d) = all_three (ltb x (size E)) (ltb y (size E)) (not (eqb x y)) two in
      let r : Free E x y = record { first_inside = ltb-true x (size E) i; second_inside = ltb-true y (size E) j; apart = eqb-false x y (of-not (eqb x y) d); free = free } in
      (sound f file, r)

  -- and where they do not, and the memory is large enough, it answers the length
  answers : file_check f ≡ Ok tt → Free (recording_of f) x y → work_fits (recording_of f) work ≡ true → reversed_length f ≤ length out
      → reversed_of f x y work out ≡ Ok (reversed_length f)
  unfolding reversed_of reversed_check question_check asked_check
  answers file r fits room =
      let n = size (recording_of f) in
      let two : two_events (recording_of f) x y ≡ true =
      both (both (lt-ltb x n r.first_inside) (lt-ltb y n r.second_inside)) (to_not (ne_eqb x y r.apart)) in
      rw (file, two, fits, r.free, le-leb _ _ room)

  module _ (n : ℕ) (q : reversed_of f x y work out ≡ Ok n) where
    answered : (reversed_check f x y work out ≡ Ok tt) × (n ≡ reversed_length f)
    unfolding reversed_of
    answered = written_by_lem (reversed_check f x y work out) (reversed_length f) n q

    shown_by : Shows f x y (take n (out_after_reversing f x y work out)) × (drop n (out_after_reversing f x y work out) ≡ drop n out)
    unfolding out_after_reversing
    shown_by =
        let (checked, long) = answered in
        let (ok, r) = passed checked in
        let l : length (reversed_file f x) ≡ n = reversed_length_lem f ok x r.first_inside ∙ sym long in
        let left : out_after_reversing f x y work out ≡ reversed_file f x ++ drop n out = rw (checked, long) in (
          rw (left, take_at (reversed_file f x) (drop n out) n l) (shows f ok x r.first_inside y r),
          rw (left, drop_at (reversed_file f x) (drop n out) n l),
        )

    alone : conflict (event (recording_of f) x) (event (recording_of f) y) ≡ true → (budget : ℕ) → OnList (recording_of f) x y budget 1
    alone t budget = let (ok, r) = passed answered.0 in free_listed (recording_of f) ok.accepted budget x y r t

-- ---- the theorem

pub shown : Shown
shown =
    record {
      shows = shown_by;
      both = λ f h acc a b budget sure work out fits room.
          let file = reading_passed f h acc in
          let r = sure_free (recording_of f) budget a b sure in
          (answers f a b work out file r fits room, answers f b a work out file (free_turned r) fits room);
      sure_alone = alone;
    }
