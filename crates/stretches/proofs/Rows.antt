-- The rows: each computes.
-- Assumes nothing.
use mathlib.Core.Path.{◌≡◌, refl}
use Rattle.std.specs.Prelude.{Result, Ok, Err}
use Rattle.model.specs.declared.Refusal.{Refusal}
use Rattle.model.specs.Rows.Starred.{RefusedAlone}
use Rattle.model.proofs.Computing.{rows, refusal}
use Rattle.stretches.specs.declared.Lead.{Lead}
use Rattle.stretches.specs.Stretches.{lead_number, all, within, before, lead_of, is_stretch, overlap, two_stretches, stretch_check, comparing_check, compared_of, work_after_comparing}
use Rattle.stretches.specs.Rows.{Stretched}

pub stretched : Stretched
unfolding rows all within before lead_of is_stretch overlap two_stretches stretch_check comparing_check compared_of work_after_comparing
stretched = record {
  first = leads Lead.First;
  second = leads Lead.Second;
  joined = leads Lead.First;
  joined_turned = leads Lead.Second;
  last_free = leads Lead.Neither;
  first_free = leads Lead.Neither;
  around = leads Lead.Neither;
  before_inner = leads Lead.First;
  behind_inner = leads Lead.Second;
  around_inner = leads Lead.Neither;
  waited = leads Lead.First;
  waited_twice = leads Lead.First;
  waited_once = leads Lead.Neither;
  no_pass = leads Lead.Neither;
  one_pass = leads Lead.First;
  own_task = leads Lead.First;
  own_task_turned = leads Lead.Second;
  own_task_apart = leads Lead.First;
  task = no_stretches;
  task_other = no_stretches;
  no_event = no_stretches;
  first_0 = no_stretches;
  first_0_other = no_stretches;
  position_0 = no_stretches;
  first_above = no_stretches;
  first_above_other = no_stretches;
  last_above = no_stretches;
  last_above_other = no_stretches;
  overlap = no_stretches;
  overlap_turned = no_stretches;
  overlap_same = no_stretches;
  overlap_in = no_stretches;
  overlap_around = no_stretches;
  work_short = refusal Refusal.Work;
  file_before_stretch = refusal (Refusal.Life 0);
  stretch_before_work = refusal Refusal.Stretch;
  work_left = refl;
  work_neither = refl;
  work_analysed = refl;
  work_file = refl;
  work_stretch = refl;
  work_kept = refl;
}
  where
    leads : (x : Lead) → (y : Lead) × (◌≡◌ {A = Result Lead Refusal} (Ok x) (Ok y)) × (lead_number y ≡ lead_number x)
    leads x = (x, refl, refl)

    no_stretches : RefusedAlone {A = Lead} (Err Refusal.Stretch) 17
    no_stretches = (Refusal.Stretch, refl, refl, refl, refl, refl, refl)
