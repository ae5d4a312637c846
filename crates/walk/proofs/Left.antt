-- What is left of a walk: the records from the next one on. Assumes nothing.
use mathlib.Core.Path.{◌≡◌, sym, ap₂, ◌∙◌}
use mathlib.Core.List.{List, [], ◌∷◌}
use Prim.Native.Nat.{ℕ, ◌+◌, ◌/◌, ◌<◌, ◌≤◌}
use native.Mathlib.Omega.{arith}
use lib.Dec.{ltb}
use lib.ListN.{length, drop, drop_of_length-le, length-drop}
use Rattle.std.specs.Prelude.{MatchOption, OnSome, ⊤}
use Rattle.std.proofs.Math.Seq.{drop-cons}
use native.Mathlib.Numerals.{add-one}
use Rattle.model.specs.declared.Event.{Event}
use Rattle.model.specs.Recording.{no_event}
use Rattle.model.specs.File.{events_of}
use Rattle.model.specs.Walking.{step_at}
use Rattle.model.proofs.Tests.{cases, ltb-true, ltb-false}
use Rattle.events.proofs.Laws.{events_length, event_at_lem}
use Rattle.walk.proofs.Walked.{step_in, ends}

module _ (s : List ℕ) (n : ℕ) where
  abbrev left : ℕ → List Event
  left k = drop k (events_of s)

  pub yields : MatchOption (step_at s n).item ((left n ≡ []) × (left (step_at s n).next ≡ [])) (λ x. left n ≡ x ∷ left (step_at s n).next)
  yields =
      cases (ltb n (length s / 4))
      (λ t. let h : n < length s / 4 = ltb-true _ _ t in rw (step_in s n h)
      (drop-cons (events_of s) n no_event (omega (arith, h, events_length s)) ∙ ap₂ (λ (x : Event) (k : ℕ). x ∷ drop k (events_of s)) (event_at_lem s n h) (sym (add-one n))))
      (λ t.
      let h : length s / 4 ≤ n = ltb-false _ _ t in
      let none : left n ≡ [] = drop_of_length-le (events_of s) (omega (arith, events_length s)) in
      rw (ends s n h) (none, none))

  pub nearer : OnSome (step_at s n).item (⊤ × ⊤ × (length (left (step_at s n).next) < length (left n)))
  nearer =
      cases (ltb n (length s / 4))
      (λ t. let h : n < length s / 4 = ltb-true _ _ t in rw (step_in s n h) (tt, tt, omega (arith, events_length s, length-drop n (events_of s), length-drop (n + 1) (events_of s))))
      (λ t. rw (ends s n (ltb-false _ _ t)) tt)
