-- The starred recordings, those with start counts, those with flags, those in task order, and the edge files: each row computes.
-- Assumes nothing.
use mathlib.Core.Path.{refl}
use Rattle.model.specs.declared.Refusal.{Refusal}
use Rattle.model.specs.Rows.Starred.{Starred, Edges}
use Rattle.model.specs.Rows.Started.{Started}
use Rattle.model.specs.Rows.Flagged.{Flagged}
use Rattle.model.specs.Rows.Ordered.{InTaskOrder}
use Rattle.model.proofs.Computing.{rows, refusal}

pub starred : Starred
unfolding rows
starred = record {
  a_0 = (refl, refl);
  a_1 = (refl, refl);
  a_2 = (refl, refl);
  b = (refl, refl);
  c = refl;
  d = (refl, refl);
  e = refl;
  f = (refl, refl);
  g_0 = (refl, refl);
  g_printed = (refl, refl);
  h = refl;
  i = refusal (Refusal.Life 0);
  j = refusal (Refusal.Empty 0);
}

pub started : Started
unfolding rows
started = record {
  served_by_signal = (refl, refl);
  served_by_start = (refl, refl);
  second_wait = (refl, refl);
  one_of_two = (refl, refl);
  as_many = refl;
  one_more = refusal (Refusal.Empty 1);
  second_wait_recorded = refl;
  one_of_two_recorded = refl;
  own_count = refl;
  other_count = refusal (Refusal.Empty 0);
  count_255 = refl;
  edition_0 = refusal Refusal.Edition;
  no_semaphore = refl;
  starts_missing = refusal Refusal.Extent;
  starts_more = refusal Refusal.Extent;
  starts_edition_1 = refusal Refusal.Extent;
  semaphores_64 = refl;
  semaphores_65 = refusal Refusal.Count;
  wraps = refusal Refusal.Extent;
}

pub flagged : Flagged
unfolding rows
flagged = record {
  one_post = (refl, refl);
  one_of_two = (refl, refl);
  both_of_two = (refl, refl);
  one_too_few = refusal (Refusal.Flag 1);
  other_post = (refl, refl);
  no_post = refusal (Refusal.Flag 0);
  posted_late = refusal (Refusal.Flag 0);
  posted_on_another = refusal (Refusal.Flag 1);
  awaited_twice = refl;
  stays_open = (refl, refl, refl);
  second_least = (refl, refl, refl);
  first_two = refl;
  later_post = (refl, refl);
  later_post_raised = (refl, refl, refl);
  both_named = refl;
  signal_2 = refusal (Refusal.Name 0);
  wait_2 = refusal (Refusal.Name 0);
  post_1 = refusal (Refusal.Name 0);
  flag_wait_1 = refusal (Refusal.Name 0);
  signal_for_flag = refusal (Refusal.Flag 1);
  post_for_semaphore = refusal (Refusal.Empty 1);
  starts_at_1 = refl;
  starts_no_higher = refusal (Refusal.Empty 1);
  opens_no_sooner = refusal (Refusal.Flag 1);
  own_count = refl;
  other_count = refusal (Refusal.Flag 1);
  flags_64 = refl;
  flags_65 = refusal Refusal.Count;
  semaphores_65 = refusal Refusal.Count;
  count_0 = refusal Refusal.Count;
  second_count_0 = refusal Refusal.Count;
  count_255 = refl;
  extent_before_count = refusal Refusal.Extent;
  count_before_record = refusal Refusal.Count;
  posts_missing = refusal Refusal.Extent;
  posts_more = refusal Refusal.Extent;
  no_flag = refl;
  nothing = refl;
  field_edition_1 = refusal Refusal.Count;
  field_edition_2 = refusal Refusal.Extent;
  edition_4 = refusal Refusal.Edition;
  kind_7_edition_1 = refusal (Refusal.Kind 0);
  kind_8_edition_1 = refusal (Refusal.Kind 0);
  kind_7_edition_2 = refusal (Refusal.Kind 0);
  kind_8_edition_2 = refusal (Refusal.Kind 0);
  kind_0 = refusal (Refusal.Kind 0);
  name_before_flag = refusal (Refusal.Name 0);
  life_before_flag = refusal (Refusal.Life 2);
  first_record = refusal (Refusal.Flag 0);
}

pub in_task_order : InTaskOrder
unfolding rows
in_task_order = record {
  g_order = refl;
  mixed_order = refl;
  recorded_first = refl;
  recorded_last = refl;
  open_last = refl;
  by_cell = refl;
  by_task = refl;
  by_position = refl;
  by_all = refl;
  g_by_file = refl;
  mixed_by_file = refl;
}

pub edges : Edges
unfolding rows
edges = record {
  bytes_15 = refusal Refusal.Short;
  bytes_16 = refusal Refusal.Edition;
  no_record = refl;
  no_task = refusal Refusal.Count;
  tasks_16 = refl;
  tasks_17 = refusal Refusal.Count;
  semaphores_65 = refusal Refusal.Count;
  cells_1025 = refusal Refusal.Count;
  records_1024 = refusal (Refusal.Kind 0);
  records_1025 = refusal Refusal.Count;
  wraps = refusal Refusal.Extent;
  garbage_n = refusal Refusal.Extent;
}
