-- raise_opened meets its contract: a flag wait follows the first posts on its flag, any other event none.
-- Assumes nothing.
use mathlib.Core.Path.{◌≡◌, sym, ap, ap₂, ◌∙◌}
use mathlib.Core.List.{List}
use Prim.Native.Nat.{ℕ}
use lib.ListN.{take}
use Rattle.model.specs.declared.Event.{Event}
use Rattle.model.specs.Recording.{Recording, size, kind_of, flag_wait, post_of}
use Rattle.model.specs.Passes.{posts_on}
use Rattle.vectors.proofs.Chunks.{chunks_shaped}
use Rattle.passes.specs.Lookups.{recording_of, vectors_over}
use Rattle.passes.specs.Steps.{taken}
use Rattle.recorded.proofs.Searches.{opened_flag, opened_other}
use Rattle.recorded.proofs.Taken.{taken_none}
use Rattle.recorded.proofs.raise_opened.Goals as goal

pub returns-then-w-eq-FLAG_WAIT : goal.returns-then-w-eq-FLAG_WAIT
returns-then-w-eq-FLAG_WAIT c =
    let a = c.args in
    let E : Recording = recording_of a.look.now in
    let kind : kind_of E a.e ≡ flag_wait = sym (ap (λ (v : Event). v.kind) c.event_at-w.ensures) ∙ c.if-w-eq-FLAG_WAIT.true in
    let followed = ap₂ (λ (v : Event) (n : ℕ). take n (posts_on E.events v.object)) c.event_at-w.ensures
    (c.post_of-most.ensures ∙ ap (λ (v : Event). post_of E.levels v.object) c.event_at-w.ensures)
    ∙ opened_flag E a.e kind in
    c.follow_posts.ensures ∙ ap (λ (l : List ℕ). taken a.look.now.counts (vectors_over a.look.now a.v.now) l a.e) followed

pub returns-else-w-eq-FLAG_WAIT : goal.returns-else-w-eq-FLAG_WAIT
returns-else-w-eq-FLAG_WAIT c =
    let a = c.args in
    let E = recording_of a.look.now in
    let X = vectors_over a.look.now a.v.now in
    let none = opened_other E a.e (λ q. c.if-w-eq-FLAG_WAIT.false (ap (λ (v : Event). v.kind) c.event_at-w.ensures ∙ q)) in
    sym (ap (λ (l : List ℕ). taken a.look.now.counts X l a.e) none ∙ taken_none a.look.now.counts X a.e (chunks_shaped (size E) a.look.now.counts.tasks a.v.now c.requires.0) c.requires.1)
