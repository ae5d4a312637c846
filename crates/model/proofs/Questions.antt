-- The answer to a question is read like the list, and what it says of two events holds of the admissible orders.
-- Assumes nothing.
use Prim.Native.Nat.{ℕ, ◌<◌}
use mathlib.Core.Path.{◌≡◌, refl, sym, subst}
use mathlib.Core.Logic.{◌↔◌}
use mathlib.Core.Bool.{Bool, true, false, cond}
use Rattle.model.specs.declared.Relation.{Relation}
use Rattle.model.specs.Recording.{Recording, size, event, Accepted}
use Rattle.model.specs.Vectors.{ordered, unordered}
use Rattle.model.specs.Passes.{safe_vectors}
use Rattle.model.specs.Recorded.{recorded}
use Rattle.model.specs.Pairs.{conflict, OnList}
use Rattle.model.specs.Question.{relation_of}
use Rattle.model.specs.Questions.{QuestionPromise, QuestionPromised}
use Rattle.model.proofs.Listed.{race_apart, mark_by, mark_tells}
use Rattle.model.proofs.Promise.{on_list, ordered_always, put, both_ways}
use Rattle.model.proofs.Files.{accepted_recording}

-- ---- the answer by its tests: a is ordered before b, b before a, and the recorded vectors do not order them

abbrev answer : Bool → Bool → Bool → Relation
answer p q u = cond p Relation.First (cond q Relation.Second (cond u Relation.Sure Relation.Open))

-- what an answer tells of them
abbrev Told : Bool → Bool → Bool → Relation → Type 0
Told p q u Relation.First = p ≡ true
Told p q u Relation.Second = q ≡ true
Told p q u Relation.Sure = (p ≡ false) × (q ≡ false) × (u ≡ true)
Told p q u Relation.Open = (p ≡ false) × (q ≡ false) × (u ≡ false)

told : (p q u : Bool) → Told p q u (answer p q u)
told true q u = refl
told false true u = refl
told false false true = (refl, refl, refl)
told false false false = (refl, refl, refl)

-- sure and its mark, or open and its mark
abbrev standing : Bool → Relation
standing v = cond v Relation.Sure Relation.Open

abbrev marked : Bool → ℕ
marked v = cond v 1 0

module _ (E : Recording) (acc : Accepted E) (a b : ℕ) (k : a < size E) (l : b < size E) (apart : ¬ (a ≡ b)) (budget : ℕ) where
  abbrev before : Bool
  before = ordered E.events (safe_vectors E budget) a b

  abbrev after : Bool
  after = ordered E.events (safe_vectors E budget) b a

  abbrev free : Bool
  free = unordered E.events (recorded E) a b

  tells : (r : Relation) → relation_of E a b budget ≡ r → Told before after free r
  unfolding relation_of
  tells r h = subst (Told before after free) h (told before after free)

  -- ---- the answer and the list

  enlisted : (v : Bool) → conflict (event E a) (event E b) ≡ true → before ≡ false → after ≡ false → free ≡ v → OnList E a b budget (marked v)
  enlisted v t p q u = subst (OnList E a b budget) (mark_by E (recorded E) a b v u) (put E acc budget a b k l t p q)

  told_listed : (v : Bool) → OnList E a b budget (marked v) → (before ≡ false) × (after ≡ false) × (free ≡ v)
  told_listed v h =
      let r = on_list E budget a b (marked v) h in
      let (p, q) = race_apart E (safe_vectors E budget) a b r.race in
      (p, q, mark_tells E (recorded E) a b v (sym r.marked))

  listed_as : (v : Bool) → conflict (event E a) (event E b) ≡ true → (relation_of E a b budget ≡ standing v) ↔ OnList E a b budget (marked v)
  unfolding relation_of
  listed_as v t = (
    λ h. let (p, q, u) = by v h in enlisted v t p q u,
    λ h. let (p, q, u) = told_listed v h in rw (p, q, u),
  )
    where
      by : (v : Bool) → relation_of E a b budget ≡ standing v → (before ≡ false) × (after ≡ false) × (free ≡ v)
      by true h = tells Relation.Sure h
      by false h = tells Relation.Open h

  -- ---- the theorem

  promise : QuestionPromise E a b budget
  promise =
      record {
        sure_listed = listed_as true;
        open_listed = listed_as false;
        first = λ h. ordered_always E acc budget a b k l (tells Relation.First h);
        second = λ h. ordered_always E acc budget b a l k (tells Relation.Second h);
        sure = λ h. both_ways E acc a b (record { first_inside = k; second_inside = l; apart = apart; free = (tells Relation.Sure h).2 });
      }

pub question_promise : QuestionPromised
question_promise f h q a b k l apart budget = promise _ (accepted_recording f h q) a b k l apart budget
