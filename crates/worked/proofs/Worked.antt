-- Every entry of the list of worked histories holds, by computation.
-- Assumes nothing.
use mathlib.Core.Path.{◌≡◌, refl}
use mathlib.Core.Bool.{true}
use Rattle.lists.specs.Lists.{◌and◌, ◌or◌, ◌implies◌, any, all, keep, latest, every, lowest, first, last, range}
use Rattle.events.specs.Events.{is_known, is_lone, is_begin, answers_read, is_read, is_write, is_call, names_register, asks_commit, is_commit, is_abort, is_end}
use Rattle.events.specs.Events.{by, has, begins, ended, last_of, pending_call, pending_of, latest_on}
use Rattle.events.specs.Questions.{refusal, thread_free, due, register_due, fields_due, event_questions, column_questions, refused_at}
use Rattle.event_log.specs.Answer.{events_answer, history_answer}
use Rattle.event_log.specs.Answer.{said}
use Rattle.event_log.specs.Starts.{start_of, all_zero, admits}
use Rattle.event_log.specs.Columns.{history, hold, filled_with}
use Rattle.opacity.specs.Transactions.{status, allows, precedes, last_write, own_write, is_own_read, is_store_read, store_reads, own_right}
use Rattle.opacity.specs.Justification.{placed, before, outcome, written, contents, distinct, is_order, outcome_kept, preceded, legal_over, real_time_kept}
use Rattle.opacity.specs.Lowest.{fits, lowest_place, continued, lowest_of}
use Rattle.opacity.specs.Marking.{flat, marking_bytes, gap_of, place_of, marked, others, between, no_writer_between, value_at_gap, last_event, begin_of, rule_holds, broke, tries, verdict}
use Rattle.opacity.specs.Scan.{cause, scan}
use Rattle.opacity.specs.Store.{put}
use Rattle.opacity.specs.Serial.{does, events_of, run, reads_right, after, runs_right}
use Rattle.opacity.specs.Counts.{counts}
use Rattle.counts.specs.Tally.{of_status, tally}
use Rattle.marking_reader.specs.File.{next_event, every_placed, has_point, every_pointed, head_questions, record_questions, end_questions, body_step, end_step, step_at, walk as walk_marking, opening, file_read}
use Rattle.marking.specs.Answer.{verdict_answer, said as check_said}
use Rattle.straighten.specs.Straight.{stays_put, straight_point, straightened, moved_events}
use Rattle.steps.specs.Steps.{record_questions as asks_of_record, is_start, start_questions, is_note, record_step}
use Rattle.reader.specs.Reading.{is_uncut, is_edition, is_head, headed, opening as opening_log, walk as walk_log, history_of, read_answer, said as read_said}
use Rattle.notes.specs.Without.{kept, kept_from, without_notes}
use Rattle.notes.specs.Notes.{notes_from, notes_of, first_from, next_note}
use Rattle.worked.specs.Cases.{right}
use Rattle.worked.specs.Worked.{worked}

pub worked-hold : all right worked ≡ true
unfolding
    ◌and◌ ◌or◌ ◌implies◌ any all keep latest every lowest first last range
    is_known is_lone is_begin answers_read is_read is_write is_call names_register asks_commit is_commit is_abort is_end by has begins ended last_of
    pending_call pending_of latest_on refusal thread_free due register_due fields_due event_questions column_questions refused_at
    events_answer history_answer said start_of all_zero admits history hold filled_with
    status allows precedes last_write own_write is_own_read is_store_read store_reads own_right
    placed before outcome written contents distinct is_order outcome_kept preceded legal_over real_time_kept
    fits lowest_place continued lowest_of
    flat marking_bytes gap_of place_of marked others between no_writer_between value_at_gap last_event begin_of rule_holds broke
    tries verdict cause scan put does events_of run reads_right after runs_right counts
    of_status tally
    next_event every_placed has_point every_pointed head_questions record_questions end_questions body_step end_step step_at
    walk_marking opening file_read verdict_answer check_said
    stays_put straight_point straightened moved_events
    is_start start_questions is_note record_step is_uncut is_edition is_head headed opening_log walk_log history_of read_answer read_said asks_of_record
    kept kept_from without_notes notes_from notes_of first_from next_note
    right worked
worked-hold = refl
