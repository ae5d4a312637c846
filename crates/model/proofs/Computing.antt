-- What a row computes with, under one name: `unfolding rows` unfolds whatever the lines below name.
-- Assumes nothing.
use mathlib.Core.Path.{refl}
use Rattle.std.specs.Prelude.{Err}
use Rattle.model.specs.declared.Refusal.{Refusal}
use Rattle.model.specs.Numbers.{sum, count, filter, list_from, each, flat_map, flat_map_tails, picked, last_of, nth, largest, insert, sort, kth_least}
use Rattle.model.specs.Refusals.{number_of, record_of, pairs_of}
use Rattle.model.specs.Recording.{wait_kept, flag_kept, life_kept, class_of, semaphores_of, flags_of, last_kind, known_kind, named, record_check, first_fault}
use Rattle.model.specs.File.{u16_at, u32_at, event_at, events_of, trailer_of, record_bytes, start_count, level_count, level_bytes, recording_of}
use Rattle.model.specs.Reading.{known_edition, extent_met, in_range, posts_up, file_check, reading_of, preamble_of, records_of, starts_of, posts_of}
use Rattle.model.specs.Walking.{step_at}
use Rattle.model.specs.Orders.{place, file_order}
use Rattle.model.specs.Vectors.{position, flat, start, ordered, unordered}
use Rattle.model.specs.Passes.{sources, gathered, step_one, events_on, needed, candidates, kth_among, served, raised, pass_to, pass, further, run}
use Rattle.model.specs.LastEvent.{records_read}
use Rattle.model.specs.Recorded.{matched, opened, recorded_to, recorded}
use Rattle.model.specs.Pairs.{conflict, race_pair, mark, entries_of, cell_entries, entries_in, task_order, entries, listed, entry_numbers}
use Rattle.model.specs.Analysing.{filled, work_check, analysis_check, analysis_of, work_after_analysing, list_after_analysing}
use Rattle.model.specs.Question.{relation_of, asked_check, question_check, answer_of, work_after_asking}
use Rattle.model.specs.Writing.{trailer_bytes, file_of, records_in, levels_fit, lent_check, records_check, writing_check, written_of, out_after_writing}
use Rattle.model.specs.Together.{same_counts, same_levels, records_alike, tasks_alike, work_alike, at_position, name_of, mark_of, joint_mark, joint_entry, joint_list, both_check, joint_check, joint_of, first_work_after, second_work_after, joint_list_after}
use Rattle.model.specs.Reversed.{bring_forward, reversed_file, reversed_check, reversed_of, work_after_reversing, out_after_reversing}
use Rattle.model.specs.Text.{bytes, decimal_in}
use Rattle.model.specs.Report.{field, result_line, entry_line, entry_text, entries_text, refusal_line, result_text, is_long, report_of, work_after_reporting, list_after_reporting, laid, filling}
use Rattle.model.specs.Rows.Starred.{RefusedAs}

reading : Unit {0}
unfolding sum count list_from each wait_kept flag_kept life_kept class_of semaphores_of flags_of last_kind known_kind named record_check first_fault u16_at u32_at event_at events_of trailer_of record_bytes start_count level_count level_bytes recording_of known_edition extent_met in_range posts_up file_check reading_of preamble_of records_of starts_of posts_of step_at
reading = tt

vectors : Unit {0}
unfolding place file_order filter flat_map flat_map_tails picked last_of nth largest insert sort kth_least position flat start ordered unordered sources gathered step_one events_on needed candidates kth_among served raised pass_to pass further run records_read matched opened recorded_to recorded
vectors = tt

calls : Unit {0}
unfolding conflict race_pair mark entries_of cell_entries entries_in task_order entries listed entry_numbers filled work_check analysis_check analysis_of work_after_analysing list_after_analysing relation_of asked_check question_check answer_of work_after_asking trailer_bytes file_of levels_fit lent_check records_check writing_check written_of out_after_writing
calls = tt

together : Unit {0}
unfolding same_counts same_levels records_alike tasks_alike work_alike at_position name_of mark_of joint_mark joint_entry joint_list both_check joint_check joint_of first_work_after second_work_after joint_list_after
together = tt

reversing : Unit {0}
unfolding records_in bring_forward reversed_file reversed_check reversed_of work_after_reversing out_after_reversing
reversing = tt

printing : Unit {0}
unfolding bytes decimal_in field result_line entry_line entry_text entries_text refusal_line result_text is_long report_of work_after_reporting list_after_reporting laid filling
printing = tt

unfoldable pub rows : Unit {0}
unfolding reading vectors calls together reversing printing
rows = tt

-- the refusal of a row; its number, record and pairs compute
pub refusal : {A : Type 0} (r : Refusal) → RefusedAs {A = A} (Err r) (number_of r) (record_of r) (pairs_of r)
refusal r = (r, refl, refl, refl, refl)
