-- The rows: each computes.
-- Assumes nothing.
use Prim.Native.Nat.{ℕ, ◌*◌}
use Rattle.std.specs.Prelude.{Result, Ok, Err}
use mathlib.Core.Path.{◌≡◌, refl, ap₂, ◌∙◌}
use mathlib.Core.List.{List, [], ◌++◌}
use lib.Dec.{leb}
use lib.ListN.{length, replicate, length-replicate}
use Rattle.model.specs.Refusals.{Check, number_of, record_of, pairs_of, differing_task, differing_position, unless, and_then}
use Rattle.model.specs.declared.Refusal.{Refusal}
use Rattle.model.specs.declared.Relation.{Relation}
use Rattle.model.specs.Recording.{size, tasks}
use Rattle.model.specs.File.{recording_of}
use Rattle.model.specs.Reading.{file_check}
use Rattle.model.specs.Passes.{budget_of}
use Rattle.model.specs.Pairs.{listed}
use Rattle.model.specs.Analysing.{work_check, analysis_check}
use Rattle.model.specs.Text.{bytes}
use Rattle.model.specs.Report.{report_by, if_long, is_long, report_of}
use Rattle.model.specs.Rows.Starred.{of, W, file, B, G}
use Rattle.model.specs.Rows.Faults.{Faults}
use Rattle.model.specs.Rows.Parts.{Parts}
use Rattle.model.specs.Rows.Raised.{Raised}
use Rattle.model.specs.Rows.Looked.{LookedAt}
use Rattle.model.specs.Rows.Conflicts.{Conflicts}
use Rattle.model.specs.Rows.Single.{Single}
use Rattle.model.specs.Rows.Table.{Table}
use Rattle.model.specs.Rows.Lent.{Lent}
use Rattle.model.specs.Rows.Printed.{Printed}
use Rattle.model.specs.Rows.Beyond.{Beyond}
use Rattle.model.specs.Rows.Joined.{Joined}
use Rattle.model.specs.Rows.Reversed.{Turned}
use Rattle.model.proofs.Computing.{rows, refusal}

pub faults : Faults
unfolding rows
faults = record {
  edition_before_extent = refusal Refusal.Edition;
  extent_before_count = refusal Refusal.Extent;
  count_before_records = refusal Refusal.Count;
  first_record = refusal (Refusal.Empty 0);
  kind_before_name = refusal (Refusal.Kind 0);
  name_before_life = refusal (Refusal.Name 0);
  life_before_empty = refusal (Refusal.Life 2);
  kind_0 = refusal (Refusal.Kind 1);
  kind_7 = refusal (Refusal.Kind 1);
  names = refl;
  task_3 = refusal (Refusal.Name 0);
  signal_1 = refusal (Refusal.Name 0);
  wait_1 = refusal (Refusal.Name 0);
  fork_3 = refusal (Refusal.Name 0);
  join_3 = refusal (Refusal.Name 0);
  read_2 = refusal (Refusal.Name 0);
  write_2 = refusal (Refusal.Name 0);
  no_cells = refl;
  joined_goes_on = refusal (Refusal.Life 2);
  forks_itself = refusal (Refusal.Life 0);
  forked_twice = refusal (Refusal.Life 1);
  forked_late = refusal (Refusal.Life 1);
  joins_itself = refusal (Refusal.Life 1);
  joined_unforked = refusal (Refusal.Life 1);
  joined_twice = refusal (Refusal.Life 2);
  waits_twice = refusal (Refusal.Empty 2);
  waits_early = refusal (Refusal.Empty 0);
  waits_on_another = refusal (Refusal.Empty 1);
  served_twice = refl;
}

pub parts : Parts
unfolding rows
parts = record {
  fields = refl;
  kept_read = refl;
  kept_preamble = refl;
  kept_records = refl;
  kept_starts = refl;
  kept_posts = refl;
  stocked_read = refl;
  stocked_preamble = refl;
  stocked_records = refl;
  stocked_starts = refl;
  stocked_posts = refl;
  flagged_read = refl;
  flagged_preamble = refl;
  flagged_records = refl;
  flagged_starts = refl;
  flagged_posts = refl;
  broken_read = refusal (Refusal.Empty 0);
  broken_preamble = refl;
  broken_records = refl;
  broken_starts = refl;
  broken_posts = refl;
  step_0 = refl;
  step_1 = refl;
  step_2 = refl;
  step_3 = refl;
}

pub raised : Raised
unfolding rows
raised = record {
  waited_twice = (refl, refl, refl);
  waited_twice_recorded = refl;
  forked_0 = (refl, refl, refl);
  forked = (refl, refl, refl);
  forked_recorded = refl;
  idle_joined = (refl, refl, refl);
  idle_joined_recorded = refl;
  nothing_shared = (refl, refl, refl);
  two_semaphores = (refl, refl, refl);
  two_semaphores_recorded = refl;
  handed_on = (refl, refl, refl);
  slow_1 = (refl, refl, refl);
  slow_2 = (refl, refl, refl);
  slow_settled = (refl, refl, refl);
  slow_recorded = refl;
}

pub looked_at : LookedAt
unfolding rows
looked_at = record {
  joined = (refl, refl);
  joined_in_part = (refl, refl);
  last_record = (refl, refl);
  first_record = (refl, refl);
  no_record = (refl, refl);
  no_bytes = (refl, refl);
  three_bytes = (refl, refl);
  seven_bytes = (refl, refl);
}

pub conflicts : Conflicts
unfolding rows
conflicts = record {
  reads = refl;
  writes = refl;
  single_reads = refl;
  single_writes = refl;
  one_task = refl;
  two_cells = refl;
  one_task_two_cells = refl;
  no_access = refl;
  no_kind = refl;
}

pub single : Single
unfolding rows
single = record {
  both_write = (refl, refl);
  one_writes = (refl, refl);
  write_plain_read = (refl, refl);
  write_plain_write = (refl, refl);
  read_plain_write = (refl, refl);
  read_plain_read = (refl, refl);
  among_three = (refl, refl);
  kinds = refl;
  kind_9_edition_1 = refusal (Refusal.Kind 0);
  kind_10_edition_1 = refusal (Refusal.Kind 0);
  kind_9_edition_2 = refusal (Refusal.Kind 0);
  kind_10_edition_2 = refusal (Refusal.Kind 0);
  kind_11 = refusal (Refusal.Kind 0);
  kind_10_written = refl;
  kind_10_edition_2_written = refusal (Refusal.Kind 0);
  kind_11_written = refusal (Refusal.Kind 0);
  cell_1_read = refusal (Refusal.Name 0);
  cell_1_written = refusal (Refusal.Name 0);
}

pub table : Table
unfolding rows
table = record {
  short = refusal Refusal.Short;
  edition = refusal Refusal.Edition;
  extent = refusal Refusal.Extent;
  count = refusal Refusal.Count;
  kind = refusal (Refusal.Kind 1);
  name = refusal (Refusal.Name 1);
  life = refusal (Refusal.Life 1);
  empty = refusal (Refusal.Empty 1);
  work = refusal Refusal.Work;
  work_3 = refusal Refusal.Work;
  work_asked = refusal Refusal.Work;
  list = refusal (Refusal.List 1);
  list_3 = refusal (Refusal.List 3);
  event_a = refusal Refusal.Event;
  event_b = refusal Refusal.Event;
  event_same = refusal Refusal.Event;
  out = refusal Refusal.Out;
  out_starts = refusal Refusal.Out;
  out_posts = refusal Refusal.Out;
  starts = refusal Refusal.Starts;
  starts_more = refusal Refusal.Starts;
  starts_edition_1 = refusal Refusal.Starts;
  starts_edition_3 = refusal Refusal.Starts;
  starts_more_edition_3 = refusal Refusal.Starts;
  posts = refusal Refusal.Starts;
  posts_more = refusal Refusal.Starts;
  posts_as_starts = refusal Refusal.Starts;
  posts_edition_1 = refusal Refusal.Starts;
  posts_edition_2 = refusal Refusal.Starts;
  flag = refusal (Refusal.Flag 1);
  edition_0_written = refusal Refusal.Edition;
  edition_4_written = refusal Refusal.Edition;
  extent_written = refusal Refusal.Extent;
  count_written = refusal Refusal.Count;
  flags_written = refusal Refusal.Count;
  kind_written = refusal (Refusal.Kind 1);
  empty_written = refusal (Refusal.Empty 1);
  flag_written = refusal (Refusal.Flag 1);
  post_0 = refusal Refusal.Count;
  post_0_edition_2 = refusal Refusal.Count;
  post_0_edition_1 = refusal Refusal.Count;
  file_before_work = refusal (Refusal.Life 0);
  file_before_event = refusal (Refusal.Life 0);
  event_before_work = refusal Refusal.Event;
  work_before_list = refusal Refusal.Work;
  edition_before_extent = refusal Refusal.Edition;
  extent_before_count = refusal Refusal.Extent;
  extent_before_post = refusal Refusal.Extent;
  extent_before_kind = refusal Refusal.Extent;
  count_before_starts = refusal Refusal.Count;
  post_before_starts = refusal Refusal.Count;
  starts_before_record = refusal Refusal.Starts;
  posts_before_record = refusal Refusal.Starts;
  record_before_out = refusal (Refusal.Life 0);
  flag_before_out = refusal (Refusal.Flag 0);
  a_first = (Relation.First, refl, refl);
  b_first = (Relation.Second, refl, refl);
  is_open = (Relation.Open, refl, refl);
  open_back = (Relation.Open, refl, refl);
  is_sure = (Relation.Sure, refl, refl);
}

pub lent : Lent
unfolding rows
lent = record {
  work_start = refl;
  work_raised = refl;
  work_three_tasks = refl;
  list_one = refl;
  list_none = refl;
  file_work = refl;
  file_list = refl;
  work_short_work = refl;
  work_short_list = refl;
  list_short_list = refl;
  a_first = refl;
  b_first = refl;
  is_open = refl;
  is_sure = refl;
  ask_file = refl;
  ask_event = refl;
  ask_work_short = refl;
  length = refl;
  written = refl;
  no_records = refl;
  just_fits = refl;
  length_starts = refl;
  written_starts = refl;
  length_posts = refl;
  written_posts = refl;
  record_refused = refl;
  starts_refused = refl;
  posts_refused = refl;
  out_short = refl;
}

-- ---- what is printed, by how many numbers are lent: a row then need not make the program's 57,344

check_by_lengths : List ℕ → ℕ → ℕ → Check
check_by_lengths f m n =
    let E = recording_of f in
    let pairs = length (listed E (budget_of E)) in
    and_then (and_then (file_check f) λ _. unless (leb (2 * (size E * tasks E)) m) Refusal.Work λ _. Ok tt) λ _.
    unless (leb (3 * pairs) n) (Refusal.List pairs) λ _. Ok tt

report_by_lengths : List ℕ → ℕ → ℕ → List ℕ
report_by_lengths f m n = if_long (is_long f) (bytes "too long\n") λ _. let E = recording_of f in report_by E (budget_of E) (check_by_lengths f m n)

by_lengths : (f work list : List ℕ) → report_of f work list ≡ report_by_lengths f (length work) (length list)
unfolding report_of analysis_check work_check check_by_lengths report_by_lengths
by_lengths f work list = refl

with_room : (f : List ℕ) {text : List ℕ} → report_by_lengths f 32768 24576 ≡ text → report_of f (replicate 32768 0) (replicate 24576 0) ≡ text
with_room f q =
    by_lengths f (replicate 32768 0) (replicate 24576 0)
    ∙ ap₂ (report_by_lengths f) (length-replicate {A = ℕ} 32768 0) (length-replicate {A = ℕ} 24576 0)
    ∙ q

pub printed : Printed
unfolding rows check_by_lengths report_by_lengths
printed = record {
  g = with_room G refl;
  i = refl;
  j = refl;
  no_events = with_room (file 1 0 0 []) refl;
  is_open = with_room B refl;
  two_cells = with_room (file 2 0 2 (of 6 0 1 ++ of 6 1 1 ++ W 0 ++ W 1)) refl;
  at_record = refl;
  list_full = refl;
  budget = refl;
  unsettled = refl;
  bytes_16384 = refl;
  bytes_16385 = refl;
  work_left = refl;
  list_left = refl;
  work_kept = refl;
  list_kept = refl;
  zero = refl;
  nine = refl;
  ten = refl;
  largest = refl;
  cut_off = refl;
  fits = refl;
  beyond = refl;
  fills_9 = refl;
  fills_12 = refl;
}

pub beyond : Beyond
unfolding rows
beyond = record {
  no_trailer = refl;
  no_record = refl;
  no_event = refl;
  kind_0 = refl;
  kind_7 = refl;
  kind_11 = refl;
  no_vector = refl;
  no_task = refl;
  no_place = refl;
  no_match = refl;
  fewer_than_k = refl;
  k_0 = refl;
  bits_17 = refl;
  bits_33 = refl;
  digits_21 = refl;
}

pub joined : Joined
unfolding rows
joined = record {
  a = (refl, refl);
  b = (refl, refl);
  c = (refl, refl);
  d = (refl, refl);
  e = (refl, refl);
  f = (refl, refl);
  g = (refl, refl);
  h = (refl, refl);
  i = refusal (Refusal.Life 0);
  j = refusal (Refusal.Empty 0);
  sure_by_second = (refl, refl);
  sure_by_first = (refl, refl);
  flag_by_second = (refl, refl);
  flag_by_first = (refl, refl);
  in_order_kept = (refl, refl);
  in_order_turned = (refl, refl);
  tasks = differ 0 0;
  semaphores = differ 0 0;
  cells = differ 0 0;
  starts = differ 0 0;
  second_start = differ 0 0;
  starts_edition_1 = differ 0 0;
  editions = (refl, refl);
  flags = differ 0 0;
  no_flags = differ 0 0;
  posts = differ 0 0;
  second_post = differ 0 0;
  starts_edition_3 = differ 0 0;
  posts_before_records = differ 0 0;
  editions_1_3 = (refl, refl);
  counts_before_records = differ 0 0;
  kind = differ 0 2;
  object = differ 0 1;
  missing_in_second = differ 1 2;
  missing_in_first = differ 1 1;
  own_order = differ 0 1;
  lowest_task = differ 1 1;
  tasks_swapped = differ 0 1;
  work_first = refusal Refusal.Work;
  work_second = refusal Refusal.Work;
  list = refusal (Refusal.List 1);
  first_before_second = refusal (Refusal.Life 0);
  second_before_differ = refusal (Refusal.Empty 0);
  work_before_list = refusal Refusal.Work;
  first_work = refl;
  second_work = refl;
  entries = refl;
  list_short = refl;
  work_short_first = refl;
  work_short_second = refl;
  work_short_list = refl;
  differ_first = refl;
  differ_second = refl;
  differ_list = refl;
  refused_first = refl;
  refused_second = refl;
}
  where
    -- 14 at this task and position
    differ : (t p : ℕ) → (r : Refusal) × (◌≡◌ {A = Result ℕ Refusal} (Err (Refusal.Differ t p)) (Err r)) × (number_of r ≡ 14) × (record_of r ≡ 0) × (differing_task r ≡ t) × (differing_position r ≡ p)
    differ t p = (Refusal.Differ t p, refl, refl, refl, refl, refl)

pub turned : Turned
unfolding rows
turned = record {
  c_write = (refl, refl);
  c_read = (refl, refl);
  e_write = (refl, refl);
  e_read = (refl, refl);
  g_write = (refl, refl);
  g_read = (refl, refl);
  four_write = (refl, refl);
  four_read = (refl, refl);
  flag_write = (refl, refl);
  flag_read = (refl, refl);
  with_fork = (refl, refl);
  with_join = (refl, refl);
  alone = (refl, refl);
  no_conflict = (refl, refl);
  preamble = (refl, refl);
  preamble_starts = (refl, refl);
  unsure = unsure;
  unsure_turned = unsure;
  is_open = unsure;
  open_turned = unsure;
  flag_open = unsure;
  one_task = unsure;
  one_task_turned = unsure;
  event_chosen = refusal Refusal.Event;
  event_other = refusal Refusal.Event;
  event_same = refusal Refusal.Event;
  work_short = refusal Refusal.Work;
  out_short = refusal Refusal.Out;
  out_fits = refl;
  out_short_starts = refusal Refusal.Out;
  out_fits_starts = refl;
  out_short_posts = refusal Refusal.Out;
  out_fits_posts = refl;
  file_before_event = refusal (Refusal.Life 0);
  event_before_work = refusal Refusal.Event;
  work_before_unsure = refusal Refusal.Work;
  unsure_before_out = refusal Refusal.Unsure;
  work_left = refl;
  work_unsure = refl;
  work_left_analysed = refl;
  work_starts_analysed = refl;
  work_posts_analysed = refl;
  work_unsure_analysed = refl;
  work_event = refl;
  work_kept = refl;
  work_file = refl;
  out_file = refl;
  out_event = refl;
  out_work = refl;
  out_unsure = refl;
  out_kept = refl;
}
  where
    unsure : (r : Refusal) × (◌≡◌ {A = Result ℕ Refusal} (Err Refusal.Unsure) (Err r))
        × (number_of r ≡ 15) × (record_of r ≡ 0) × (pairs_of r ≡ 0) × (differing_task r ≡ 0) × (differing_position r ≡ 0)
    unsure = (Refusal.Unsure, refl, refl, refl, refl, refl, refl)
