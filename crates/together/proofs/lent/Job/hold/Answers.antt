-- Job.hold meets its contract: each of its answers is one of the cases. Assumes nothing.
use mathlib.Core.Path.{◌≡◌, refl, sym, ap, ◌∙◌}
use mathlib.Core.Bool.{true, not, ◌&&◌}
use native.Mathlib.Omega.{arith}
use borrow.Author.Tests.{not-false}
use Rattle.model.specs.Vectors.{Vectors}
use Rattle.model.specs.Passes.{budget_of}
use Rattle.model.specs.Analysing.{work_fits}
use Rattle.work.specs.Ready.{recording_of}
use Rattle.work.proofs.Filled.{recorded_vectors, listing}
use Rattle.together.specs.Naming.{named}
use Rattle.together.proofs.Answers.{short_list, finished}
use Rattle.together.proofs.Joining.{all_pairs, their_room, unwritten, room_left, of_first, one_list, named_levels, twins}
use Rattle.together.proofs.lent.Job.hold.Goals as goal
use Rattle.together.proofs.lent.Job.hold.Goals.{After-list_pairs}

-- both work memories have room
room : (t : After-list_pairs) → (work_fits (recording_of t.args.self.now.first) t.args.first_work.now && work_fits (recording_of t.args.self.now.second) t.args.second_work.now) ≡ true
room t =
    sym t.works_fit.ensures ∙ not-false _ (ap not t.if-not-works_fit.false)

pub name_all-requires-clause-by_index : goal.name_all-requires-clause-by_index
name_all-requires-clause-by_index c =
    let list = listing _ _ _ _ refl _ _ _ c.settle.ensures 5 _ _ _ _ c.in-Ok.ensures in
    (of_first _ _ _ _ _ list refl, omega (arith, room_left _ _ _ _ _ list refl, c.list_pairs.auto.list))

pub returns-in-Ok : goal.returns-in-Ok
returns-in-Ok c =
    let a = c.args in
    let E = recording_of a.self.now.first in
    let F = recording_of a.self.now.second in
    let list = listing _ _ _ E refl (budget_of E) _ _ c.settle.ensures 5 _ _ _ _ c.in-Ok.ensures in
    let n = c.name_all.ensures in
    let alike =
    named_levels E.events a.self.now.second.records.now a.self.now.second.counts a.self.now.second.levels.now _ n.kept
    ∙ ap (λ (R : Vectors). named E.events F R n.kept) (recorded_vectors _ _ _ F refl (budget_of F) a.second_work.now _ c.settle-2.ensures) in
    finished E F _ _ _ (room (goal.at.returns-in-Ok c).After-list_pairs) _ _ c.settle.ensures c.settle-2.ensures _ _ (all_pairs _ _ _ _ _ list) (their_room _ _ _ _ _ list)
    (one_list _ _ _ _ _ list refl F n.kept _ _ alike (twins E F n.kept n.counterparts) n.entries)

pub returns-in-Err : goal.returns-in-Err
returns-in-Err c =
    let a = c.args in
    let E = recording_of a.self.now.first in
    let F = recording_of a.self.now.second in
    let list = listing _ _ _ E refl (budget_of E) _ _ c.settle.ensures 5 _ _ _ _ c.in-Err.ensures in
    short_list E F _ _ _ (room (goal.at.returns-in-Err c).After-list_pairs) _ _ c.settle.ensures c.settle-2.ensures _ _ (all_pairs _ _ _ _ _ list) (their_room _ _ _ _ _ list) (unwritten _ _ _ _ _ list refl)
