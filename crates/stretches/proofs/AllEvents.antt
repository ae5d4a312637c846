-- What is promised of two stretches: the answer is by the tests of all their events, and what the safe vectors order comes so in every
-- admissible order.
-- Assumes nothing.
use Prim.Native.Nat.{ℕ, ◌≤◌}
use mathlib.Core.Path.{◌≡◌, refl, ap}
use mathlib.Core.Bool.{Bool, true, false}
use native.Mathlib.Omega.{arith}
use Rattle.model.specs.Recording.{Recording, Accepted}
use Rattle.model.specs.Orders.{file_order}
use Rattle.model.specs.Vectors.{Vectors}
use Rattle.model.specs.Passes.{Run, safe_vectors}
use Rattle.model.proofs.Tests.{clash, fails}
use Rattle.model.proofs.Climb.{settled_stays, budget_up}
use Rattle.model.proofs.Rise.{run_rises}
use Rattle.model.proofs.Listed.{ordered_more}
use Rattle.model.proofs.FileOrder.{file_admissible}
use Rattle.model.proofs.Promise.{ordered_always}
use Rattle.model.proofs.Files.{accepted_recording}
use Rattle.stretches.specs.declared.Stretch.{Stretch}
use Rattle.stretches.specs.Stretches.{lead_number, before, lead_where, lead_of, two_stretches}
use Rattle.stretches.specs.AllEvents.{Answers, AllOrdered, StretchPromise, StretchPromised}
use Rattle.stretches.proofs.Events.{before_all, all_before, first_event, last_event_lem, first_within, last_within, parted}
use Rattle.stretches.proofs.Ends.{both_ends}

-- ---- the answer by its tests: r is before s, and s before r

-- what the number of an answer tells of them
record Told (p q : Bool) (n : ℕ) : Type 0 where
  first : n ≡ 1 → p ≡ true
  second : n ≡ 2 → q ≡ true
  neither : n ≡ 3 → (p ≡ false) × (q ≡ false)

told : (p q : Bool) → Told p q (lead_number (lead_where p q))
told true q = record { first = λ h. refl; second = λ h. absurd (omega (arith, h)); neither = λ h. absurd (omega (arith, h)) }
told false true = record { first = λ h. absurd (omega (arith, h)); second = λ h. refl; neither = λ h. absurd (omega (arith, h)) }
told false false = record { first = λ h. absurd (omega (arith, h)); second = λ h. absurd (omega (arith, h)); neither = λ h. (refl, refl) }

module _ (E : Recording) (acc : Accepted E) (r s : Stretch) (two : two_stretches E r s ≡ true) where
  module _ (budget : ℕ) where
    abbrev safe : Vectors
    safe = safe_vectors E budget

    abbrev there : Bool
    there = before E.events safe r s

    abbrev back : Bool
    back = before E.events safe s r

    tells : Told there back (lead_number (lead_of E r s budget))
    unfolding lead_of
    tells = told there back

    -- an event of r and one of s are not each ordered before the other, as the file's own order shows
    one_way : back ≡ true → there ≡ false
    one_way q =
        let k = parted E r s two in
        let (a, e) = last_event_lem E.events r k.left in
        let (b, f) = first_event E.events s k.right in
        let p = last_within E.events r k.left a e in
        let t = first_within E.events s k.right b f in
        fails there
        (λ h.
        let x = ordered_always E acc budget a b e.inside f.inside (before_all E.events safe r s h a b e.inside p f.inside t) in
        let y = ordered_always E acc budget b a f.inside e.inside (before_all E.events safe s r q b a f.inside t e.inside p) in
        let file = file_admissible E acc in
        let i = x (file_order E) file in
        let j = y (file_order E) file in omega arith)

    first_says : Answers E r s budget 1 → AllOrdered E.events safe r s
    first_says h = before_all E.events safe r s (tells.first h)

    say_first : AllOrdered E.events safe r s → Answers E r s budget 1
    unfolding lead_of
    say_first h = rw (all_before E.events safe r s h)

    second_says : Answers E r s budget 2 → AllOrdered E.events safe s r
    second_says h = before_all E.events safe s r (tells.second h)

    say_second : AllOrdered E.events safe s r → Answers E r s budget 2
    unfolding lead_of
    say_second h = let q = all_before E.events safe s r h in rw (one_way q, q)

    neither_says : Answers E r s budget 3 → ¬ (AllOrdered E.events safe r s) × ¬ (AllOrdered E.events safe s r)
    neither_says h =
        let (p, q) = tells.neither h in
        (λ x. clash (all_before E.events safe r s x) p, λ x. clash (all_before E.events safe s r x) q)

    say_neither : ¬ (AllOrdered E.events safe r s) × ¬ (AllOrdered E.events safe s r) → Answers E r s budget 3
    unfolding lead_of
    say_neither h = rw (fails there (λ t. h.0 (before_all E.events safe r s t)), fails back (λ t. h.1 (before_all E.events safe s r t)))

  -- what one budget orders, a larger one does
  all_more : (b d : ℕ) → b ≤ d → (p q : Stretch) → AllOrdered E.events (safe_vectors E b) p q → AllOrdered E.events (safe_vectors E d) p q
  all_more b d h p q k x y i u j v = ordered_more E (safe_vectors E b) (safe_vectors E d) (budget_up E b d h) x y (k x y i u j v)

  promise : (budget : ℕ) → StretchPromise E r s budget
  unfolding lead_of
  promise b =
      let (one, other) = both_ends E (safe b) (run_rises E b) r s two in
      record {
        first = (first_says b, say_first b);
        second = (second_says b, say_second b);
        neither = (neither_says b, say_neither b);
        first_always = λ h x y i p j q. ordered_always E acc b x y i j (first_says b h x y i p j q);
        second_always = λ h x y i p j q. ordered_always E acc b x y i j (second_says b h x y i p j q);
        keeps_first = λ d h k. say_first d (all_more b d h r s (first_says b k));
        keeps_second = λ d h k. say_second d (all_more b d h s r (second_says b k));
        keeps_answer = λ q d h. ap (λ (m : Run). let X = m.vectors in lead_where (before E.events X r s) (before E.events X s r)) (settled_stays E b d h q);
        first_ends = one;
        second_ends = other;
      }

pub stretch_promise : StretchPromised
stretch_promise f h q r s two budget = promise _ (accepted_recording f h q) r s two budget
