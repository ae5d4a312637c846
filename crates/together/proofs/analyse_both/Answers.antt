-- analyse_both meets its contract: each of its answers is one of the cases. Assumes nothing.
use mathlib.Core.Path.{◌≡◌, sym, subst₂, ◌∙◌}
use Rattle.model.specs.File.{recording_of}
use Rattle.model.specs.Together.{work_alike}
use Rattle.model.specs.OneJob.{SameWork}
use Rattle.model.proofs.Together.{together}
use Rattle.model.proofs.Checks.{handed_on}
use Rattle.work.proofs.Accepted.{passed}
use Rattle.together.proofs.Answers.{refused_first, refused_second, refused_differ, held_by}
use Rattle.together.proofs.analyse_both.Goals as goal
use Rattle.together.proofs.analyse_both.Goals.{After-work_alike}

-- what is answered of the parts holds of the files
of_files : (t : After-work_alike) → work_alike (recording_of t.args.first.now) (recording_of t.args.second.now) ≡ t.work_alike.result
of_files t =
    sym (rw (t.in_ok-a.ensures.recording, t.in_ok-b.ensures.recording) at t.work_alike.ensures)

pub returns-in_err-a : goal.returns-in_err-a
returns-in_err-a c =
    let r = refused_first _ _ _ _ _ _ c.in_err-a.ensures in
    record { value = handed_on _ _ c.from_residual.ensures ∙ r.answer; first_work_after = r.first; second_work_after = r.second; list_after = r.list }

pub returns-in_err-b : goal.returns-in_err-b
returns-in_err-b c =
    let r = refused_second _ _ _ _ _ (passed _ _ c.in_ok-a.ensures.read) _ c.in_err-b.ensures in
    record { value = handed_on _ _ c.from_residual-in_err-b.ensures ∙ r.answer; first_work_after = r.first; second_work_after = r.second; list_after = r.list }

pub returns-in_err-work_alike : goal.returns-in_err-work_alike
returns-in_err-work_alike c =
    let differ = of_files (goal.at.returns-in_err-work_alike c).After-work_alike ∙ c.in_err-work_alike.was in
    let r = refused_differ _ _ _ _ _ (passed _ _ c.in_ok-a.ensures.read) (passed _ _ c.in_ok-b.ensures.read) _ differ in
    record { value = handed_on _ _ c.from_residual-in_err-work_alike.ensures ∙ r.answer; first_work_after = r.first; second_work_after = r.second; list_after = r.list }

pub invariant_of-job-3 : goal.invariant_of-job-3
invariant_of-job-3 c =
    let a = c.in_ok-a.ensures in
    let b = c.in_ok-b.ensures in
    let alike = of_files (goal.at.invariant_of-job-3 c).After-work_alike ∙ c.in_ok-work_alike.was in
    record { same = subst₂ SameWork (sym a.recording) (sym b.recording) ((together.differs _ _ _ _ a.read b.read).0 alike) }

pub returns : goal.returns
returns c =
    let a = c.in_ok-a.ensures in
    let b = c.in_ok-b.ensures in
    let alike = of_files (goal.at.returns c).After-work_alike ∙ c.in_ok-work_alike.was in
    let r = held_by _ _ _ _ _ (passed _ _ a.read) (passed _ _ b.read) alike _ _ a.recording b.recording _ _ _ _ c.hold.ensures in
    record { value = r.answer; first_work_after = r.first; second_work_after = r.second; list_after = r.list }
