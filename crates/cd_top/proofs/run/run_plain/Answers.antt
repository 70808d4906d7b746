use Rattle.std.proofs.Common.{[], arith, refl, sym, inl, inr, subst}
use Rattle.cd_engine.specs.declared.ended.Ended.TheVariants as ended
use Rattle.cd_words.specs.declared.command.Command.TheVariants.{Compact, Check, Inspect, Drill}
use Rattle.cd_top.specs.declared.status.Status.TheVariants as status
use Rattle.cd_top.proofs.BrokenWords.{broken_comes, broken_is_no_line, broken_says_none, says_as, refused_words, refused_spent}
use Rattle.cd_top.proofs.Checked.{check_ends, check_reports, check_unended, check_takes, whole_as_said}
use Rattle.cd_top.proofs.Compacted.{compact_ends, compact_writes, compact_reports, compact_unended, compact_takes, served_as_said}
use Rattle.cd_top.specs.Drilling.{IsSummary}
use Rattle.cd_top.specs.Reports.{check_report, compact_report, inspect_report}
use Rattle.cd_top.proofs.DrillRuns.{drill_reads_none, drill_same, line_comes, no_read_fault}
use Rattle.cd_top.proofs.Inspected.{inspect_ends, inspect_writes, inspect_reports, inspect_unended, inspect_takes}
use Rattle.cd_top.proofs.Mapping.{memory_stops, comes_stopped, at_stop, ends_no_usage, ends_complete}
use Rattle.cd_top.proofs.Projected.{projected}
use Rattle.cd_top.proofs.Refused.{refused_comes, too_long_comes, capture_refusal, file_refusal}
use Rattle.cd_top.proofs.Reporting.{unsaid}
use Rattle.cd_top.proofs.Telling.{told_ends_as, told_end_is, outranks_told, completes, done_goes}
use Rattle.cd_top.proofs.Unread.{none_taken, none_stops, unread, writes_none}
use Rattle.cd_top.proofs.run.run_plain.Goals as goal

pub returns-in-Ok-Compact-clause-refuses : goal.returns-in-Ok-Compact-clause-refuses
returns-in-Ok-Compact-clause-refuses g c = λ place breaks. absurd (broken_is_no_line c.words_are_a_line_or_break_a_rule.ensures c.args.words.now place breaks (Compact c.in-Ok-Compact.settings, says_as c.args.words.now c.in-Ok-Compact.field-0 _ c.in-Ok-Compact.field-0-is c.in-Ok-Compact.ensures.command))

pub returns-in-Ok-Compact-clause-bad_capture : goal.returns-in-Ok-Compact-clause-bad_capture
returns-in-Ok-Compact-clause-bad_capture g c = λ d taken over b. refused_comes _ d taken _ (ended.BadCapture b) (capture_refusal b)
    (compact_ends c.words_say_at_most_one_command.ensures c.args.words.now _ d _ _ _ _ _ _ c.compact_plain-ended.result taken _ (says_as c.args.words.now c.in-Ok-Compact.field-0 _ c.in-Ok-Compact.field-0-is c.in-Ok-Compact.ensures.command) c.tell_compact.ensures.tells c.compact_plain-ended.ensures.told over)

pub returns-in-Ok-Compact-clause-too_long : goal.returns-in-Ok-Compact-clause-too_long
returns-in-Ok-Compact-clause-too_long g c = λ d taken over. too_long_comes _ d taken _
    (compact_ends c.words_say_at_most_one_command.ensures c.args.words.now _ d _ _ _ _ _ _ c.compact_plain-ended.result taken _ (says_as c.args.words.now c.in-Ok-Compact.field-0 _ c.in-Ok-Compact.field-0-is c.in-Ok-Compact.ensures.command) c.tell_compact.ensures.tells c.compact_plain-ended.ensures.told over)

pub returns-in-Ok-Compact-clause-ending : goal.returns-in-Ok-Compact-clause-ending
returns-in-Ok-Compact-clause-ending g c = λ d taken over.
    compact_ends c.words_say_at_most_one_command.ensures c.args.words.now _ d _ _ _ _ _ _ c.compact_plain-ended.result taken _ (says_as c.args.words.now c.in-Ok-Compact.field-0 _ c.in-Ok-Compact.field-0-is c.in-Ok-Compact.ensures.command) c.tell_compact.ensures.tells c.compact_plain-ended.ensures.told over

pub returns-in-Ok-Compact-clause-bad_file : goal.returns-in-Ok-Compact-clause-bad_file
returns-in-Ok-Compact-clause-bad_file g c = λ d taken over b. refused_comes _ d taken _ (ended.BadFile b) (file_refusal b)
    (compact_ends c.words_say_at_most_one_command.ensures c.args.words.now _ d _ _ _ _ _ _ c.compact_plain-ended.result taken _ (says_as c.args.words.now c.in-Ok-Compact.field-0 _ c.in-Ok-Compact.field-0-is c.in-Ok-Compact.ensures.command) c.tell_compact.ensures.tells c.compact_plain-ended.ensures.told over)

pub returns-in-Ok-Compact-clause-done : goal.returns-in-Ok-Compact-clause-done
returns-in-Ok-Compact-clause-done g c = λ d says reads is. c.compact_plain-ended.ensures.done (told_end_is compact_report _ _ _ c.compact_plain-ended.result.0 ended.Done c.compact_plain-ended.result.1 c.tell_compact.ensures.tells is (λ halt. halt))

pub returns-in-Ok-Compact-clause-done_whole : goal.returns-in-Ok-Compact-clause-done_whole
returns-in-Ok-Compact-clause-done_whole g c = λ d says reads is.
    let done = told_end_is compact_report _ _ _ c.compact_plain-ended.result.0 ended.Done c.compact_plain-ended.result.1 c.tell_compact.ensures.tells is (λ halt. halt) in
    c.compact_plain-ended.ensures.at_end (done_goes c.compact_plain-ended.result.0 done) (c.compact_plain-ended.ensures.done done)

pub returns-in-Ok-Compact-clause-read_fault : goal.returns-in-Ok-Compact-clause-read_fault
returns-in-Ok-Compact-clause-read_fault g c = λ is. c.compact_plain-ended.ensures.read_fault (told_end_is compact_report _ _ _ c.compact_plain-ended.result.0 ended.ReadFault c.compact_plain-ended.result.1 c.tell_compact.ensures.tells is (λ halt. halt))

pub returns-in-Ok-Compact-clause-read_fault_told : goal.returns-in-Ok-Compact-clause-read_fault_told
returns-in-Ok-Compact-clause-read_fault_told g c = λ before now.
    told_ends_as compact_report _ _ _ c.compact_plain-ended.result.0 ended.ReadFault c.compact_plain-ended.result.1 c.tell_compact.ensures.tells (c.compact_plain-ended.ensures.read_fault_told before now)

pub returns-in-Ok-Compact-clause-write_fault : goal.returns-in-Ok-Compact-clause-write_fault
returns-in-Ok-Compact-clause-write_fault g c = λ is. elim (c.tell_compact.ensures.write_fault is) [
  | inl written ↦ inl (c.compact_plain-ended.ensures.write_fault written)
  | inr told ↦ inr told
]

pub returns-in-Ok-Compact-clause-outranks_out : goal.returns-in-Ok-Compact-clause-outranks_out
returns-in-Ok-Compact-clause-outranks_out g c = outranks_told compact_report _ _ _ _ _ c.compact_plain-ended.result.0 c.compact_plain-ended.result.1 c.tell_compact.ensures.tells c.compact_plain-ended.ensures.outranks

pub returns-in-Ok-Compact-clause-file : goal.returns-in-Ok-Compact-clause-file
returns-in-Ok-Compact-clause-file g c = λ s taken over file of.
    compact_writes c.words_say_at_most_one_command.ensures c.args.words.now _ s _ _ _ _ _ _ c.compact_plain-ended.result taken file _ (says_as c.args.words.now c.in-Ok-Compact.field-0 _ c.in-Ok-Compact.field-0-is c.in-Ok-Compact.ensures.command) c.tell_compact.ensures.tells c.compact_plain-ended.ensures.told over of

pub returns-in-Ok-Compact-clause-compact_report : goal.returns-in-Ok-Compact-clause-compact_report
returns-in-Ok-Compact-clause-compact_report g c = λ s taken over counts are.
    compact_reports c.words_say_at_most_one_command.ensures c.args.words.now _ s _ _ _ _ _ _ c.compact_plain-ended.result taken counts _ (says_as c.args.words.now c.in-Ok-Compact.field-0 _ c.in-Ok-Compact.field-0-is c.in-Ok-Compact.ensures.command) c.tell_compact.ensures.tells c.compact_plain-ended.ensures.told over are

pub returns-in-Ok-Compact-clause-unended : goal.returns-in-Ok-Compact-clause-unended
returns-in-Ok-Compact-clause-unended g c = λ d taken over unended.
    compact_unended c.words_say_at_most_one_command.ensures c.args.words.now _ d _ _ _ _ _ _ c.compact_plain-ended.result taken _ (says_as c.args.words.now c.in-Ok-Compact.field-0 _ c.in-Ok-Compact.field-0-is c.in-Ok-Compact.ensures.command) c.tell_compact.ensures.tells c.compact_plain-ended.ensures.told over unended c.compact_plain-ended.ensures.read_fault

pub returns-in-Ok-Compact-clause-unwritten : goal.returns-in-Ok-Compact-clause-unwritten
returns-in-Ok-Compact-clause-unwritten g c = λ d says sound refused.
    (at_stop c.compact_plain-ended.result.0 _ _ (c.compact_plain-ended.ensures.outranks.refused sound refused) c.tell_compact.ensures.tells).1

pub returns-in-Ok-Compact-clause-complete : goal.returns-in-Ok-Compact-clause-complete
returns-in-Ok-Compact-clause-complete g c = λ s says bytes left served reads writes reports.
    completes compact_report _ _ _ c.compact_plain-ended.result.0 c.compact_plain-ended.result.1 c.tell_compact.ensures.tells
    (λ is. elim (c.tell_compact.ensures.write_fault is) [
      | inl written ↦ writes (c.compact_plain-ended.ensures.write_fault written)
      | inr told ↦ reports told
    ])
    (c.compact_plain-ended.ensures.complete bytes left (served_as_said c.words_say_at_most_one_command.ensures c.args.words.now _ s bytes (says_as c.args.words.now c.in-Ok-Compact.field-0 _ c.in-Ok-Compact.field-0-is c.in-Ok-Compact.ensures.command) says served) reads writes)

pub returns-in-Ok-Check-clause-refuses : goal.returns-in-Ok-Check-clause-refuses
returns-in-Ok-Check-clause-refuses g c = λ place breaks. absurd (broken_is_no_line c.words_are_a_line_or_break_a_rule.ensures c.args.words.now place breaks (Check c.in-Ok-Check.max_input, says_as c.args.words.now c.in-Ok-Check.field-0 _ c.in-Ok-Check.field-0-is c.in-Ok-Check.ensures.command))

pub returns-in-Ok-Check-clause-bad_capture : goal.returns-in-Ok-Check-clause-bad_capture
returns-in-Ok-Check-clause-bad_capture g c = λ d taken over b. refused_comes _ d taken _ (ended.BadCapture b) (capture_refusal b)
    (check_ends c.words_say_at_most_one_command.ensures c.args.words.now _ d _ _ _ _ c.check-ended.result taken _ (says_as c.args.words.now c.in-Ok-Check.field-0 _ c.in-Ok-Check.field-0-is c.in-Ok-Check.ensures.command) c.tell_check.ensures.tells c.check-ended.ensures.told over)

pub returns-in-Ok-Check-clause-bad_file : goal.returns-in-Ok-Check-clause-bad_file
returns-in-Ok-Check-clause-bad_file g c = λ d taken over b. refused_comes _ d taken _ (ended.BadFile b) (file_refusal b)
    (check_ends c.words_say_at_most_one_command.ensures c.args.words.now _ d _ _ _ _ c.check-ended.result taken _ (says_as c.args.words.now c.in-Ok-Check.field-0 _ c.in-Ok-Check.field-0-is c.in-Ok-Check.ensures.command) c.tell_check.ensures.tells c.check-ended.ensures.told over)

pub returns-in-Ok-Check-clause-too_long : goal.returns-in-Ok-Check-clause-too_long
returns-in-Ok-Check-clause-too_long g c = λ d taken over. too_long_comes _ d taken _
    (check_ends c.words_say_at_most_one_command.ensures c.args.words.now _ d _ _ _ _ c.check-ended.result taken _ (says_as c.args.words.now c.in-Ok-Check.field-0 _ c.in-Ok-Check.field-0-is c.in-Ok-Check.ensures.command) c.tell_check.ensures.tells c.check-ended.ensures.told over)

pub returns-in-Ok-Check-clause-ending : goal.returns-in-Ok-Check-clause-ending
returns-in-Ok-Check-clause-ending g c = λ d taken over.
    check_ends c.words_say_at_most_one_command.ensures c.args.words.now _ d _ _ _ _ c.check-ended.result taken _ (says_as c.args.words.now c.in-Ok-Check.field-0 _ c.in-Ok-Check.field-0-is c.in-Ok-Check.ensures.command) c.tell_check.ensures.tells c.check-ended.ensures.told over

pub returns-in-Ok-Compact-clause-taken : goal.returns-in-Ok-Compact-clause-taken
returns-in-Ok-Compact-clause-taken g c = λ d says reads bytes told.
    compact_takes c.words_say_at_most_one_command.ensures c.args.words.now _ d _ _ _ _ _ bytes (says_as c.args.words.now c.in-Ok-Compact.field-0 _ c.in-Ok-Compact.field-0-is c.in-Ok-Compact.ensures.command) says told c.compact_plain-ended.ensures.compacts

pub returns-in-Ok-Check-clause-done : goal.returns-in-Ok-Check-clause-done
returns-in-Ok-Check-clause-done g c = λ d says reads is. c.check-ended.ensures.done (told_end_is check_report _ _ _ c.check-ended.result.0 ended.Done c.check-ended.result.1 c.tell_check.ensures.tells is (λ halt. halt))

pub returns-in-Ok-Check-clause-done_whole : goal.returns-in-Ok-Check-clause-done_whole
returns-in-Ok-Check-clause-done_whole g c = λ d says reads is.
    let done = told_end_is check_report _ _ _ c.check-ended.result.0 ended.Done c.check-ended.result.1 c.tell_check.ensures.tells is (λ halt. halt) in
    c.check-ended.ensures.at_end (done_goes c.check-ended.result.0 done) (c.check-ended.ensures.done done)

pub returns-in-Ok-Check-clause-read_fault_told : goal.returns-in-Ok-Check-clause-read_fault_told
returns-in-Ok-Check-clause-read_fault_told g c = λ before now.
    told_ends_as check_report _ _ _ c.check-ended.result.0 ended.ReadFault c.check-ended.result.1 c.tell_check.ensures.tells (c.check-ended.ensures.read_fault_told before now)

pub returns-in-Ok-Check-clause-write_fault : goal.returns-in-Ok-Check-clause-write_fault
returns-in-Ok-Check-clause-write_fault g c = λ is. inr (c.tell_check.ensures.write_fault is)

pub returns-in-Ok-Check-clause-report : goal.returns-in-Ok-Check-clause-report
returns-in-Ok-Check-clause-report g c = λ max_input taken over counts are.
    check_reports c.words_say_at_most_one_command.ensures c.args.words.now _ max_input _ _ _ _ c.check-ended.result taken counts _ (says_as c.args.words.now c.in-Ok-Check.field-0 _ c.in-Ok-Check.field-0-is c.in-Ok-Check.ensures.command) c.tell_check.ensures.tells c.check-ended.ensures.told over are

pub returns-in-Ok-Check-clause-unended : goal.returns-in-Ok-Check-clause-unended
returns-in-Ok-Check-clause-unended g c = λ d taken over unended.
    check_unended c.words_say_at_most_one_command.ensures c.args.words.now _ d _ _ _ _ c.check-ended.result taken _ (says_as c.args.words.now c.in-Ok-Check.field-0 _ c.in-Ok-Check.field-0-is c.in-Ok-Check.ensures.command) c.tell_check.ensures.tells c.check-ended.ensures.told over unended c.check-ended.ensures.read_fault

pub returns-in-Ok-Check-clause-taken : goal.returns-in-Ok-Check-clause-taken
returns-in-Ok-Check-clause-taken g c = λ d says reads bytes told.
    check_takes c.words_say_at_most_one_command.ensures c.args.words.now _ d _ _ _ bytes (says_as c.args.words.now c.in-Ok-Check.field-0 _ c.in-Ok-Check.field-0-is c.in-Ok-Check.ensures.command) says told c.check-ended.ensures.checks

pub returns-in-Ok-Check-clause-complete_check : goal.returns-in-Ok-Check-clause-complete_check
returns-in-Ok-Check-clause-complete_check g c = λ max_input says bytes left whole quiet unfailed.
    completes check_report _ _ _ c.check-ended.result.0 c.check-ended.result.1 c.tell_check.ensures.tells (λ is. unfailed (c.tell_check.ensures.write_fault is))
    (c.check-ended.ensures.complete bytes left (whole_as_said c.words_say_at_most_one_command.ensures c.args.words.now (Check c.in-Ok-Check.max_input) (Check max_input) bytes (says_as c.args.words.now c.in-Ok-Check.field-0 _ c.in-Ok-Check.field-0-is c.in-Ok-Check.ensures.command) says whole) quiet)

pub returns-in-Err-Usage-clause-refuses : goal.returns-in-Err-Usage-clause-refuses
returns-in-Err-Usage-clause-refuses g c = λ place breaks.
    refused_words c.words_are_a_line_or_break_a_rule.ensures c.args.words.now c.in-Err-Usage.field-0 c.in-Err-Usage.place place _ _ _ _ _ c.in-Err-Usage.field-0-is c.in-Err-Usage.ensures.fault breaks c.refuse.ensures.refuses

pub returns-in-Err-Usage-clause-too_long : goal.returns-in-Err-Usage-clause-too_long
returns-in-Err-Usage-clause-too_long g c = λ d taken over.
    absurd (broken_says_none c.words_are_a_line_or_break_a_rule.ensures c.args.words.now c.in-Err-Usage.field-0 c.in-Err-Usage.place d c.in-Err-Usage.field-0-is c.in-Err-Usage.ensures.fault over.says)

pub returns-in-Err-Usage-clause-ending : goal.returns-in-Err-Usage-clause-ending
returns-in-Err-Usage-clause-ending g c = λ d taken over.
    absurd (broken_says_none c.words_are_a_line_or_break_a_rule.ensures c.args.words.now c.in-Err-Usage.field-0 c.in-Err-Usage.place d c.in-Err-Usage.field-0-is c.in-Err-Usage.ensures.fault over.says)

pub returns-in-Err-Usage-clause-early : goal.returns-in-Err-Usage-clause-early
returns-in-Err-Usage-clause-early g c = λ s taken over long front is.
    absurd (broken_says_none c.words_are_a_line_or_break_a_rule.ensures c.args.words.now c.in-Err-Usage.field-0 c.in-Err-Usage.place (Compact s) c.in-Err-Usage.field-0-is c.in-Err-Usage.ensures.fault over.says)

pub returns-in-Err-Usage-clause-report : goal.returns-in-Err-Usage-clause-report
returns-in-Err-Usage-clause-report g c = λ max_input taken over counts are.
    absurd (broken_says_none c.words_are_a_line_or_break_a_rule.ensures c.args.words.now c.in-Err-Usage.field-0 c.in-Err-Usage.place (Check max_input) c.in-Err-Usage.field-0-is c.in-Err-Usage.ensures.fault over.says)

pub returns-in-Err-Usage-clause-taken : goal.returns-in-Err-Usage-clause-taken
returns-in-Err-Usage-clause-taken g c = λ d says reads bytes told.
    absurd (broken_says_none c.words_are_a_line_or_break_a_rule.ensures c.args.words.now c.in-Err-Usage.field-0 c.in-Err-Usage.place d c.in-Err-Usage.field-0-is c.in-Err-Usage.ensures.fault says)

pub returns-in-Err-NoMemory-clause-usage : goal.returns-in-Err-NoMemory-clause-usage
returns-in-Err-NoMemory-clause-usage g c = comes_stopped status.NoMemory status.Usage _ refl (λ same. cc)

pub returns-in-Err-NoMemory-clause-refuses : goal.returns-in-Err-NoMemory-clause-refuses
returns-in-Err-NoMemory-clause-refuses g c = λ place breaks. refused_spent place _ _ _

pub returns-in-Err-NoMemory-clause-bad_capture : goal.returns-in-Err-NoMemory-clause-bad_capture
returns-in-Err-NoMemory-clause-bad_capture g c = λ d taken over b. comes_stopped status.NoMemory (status.BadCapture b) _ refl (λ same. cc)

pub returns-in-Err-NoMemory-clause-bad_file : goal.returns-in-Err-NoMemory-clause-bad_file
returns-in-Err-NoMemory-clause-bad_file g c = λ d taken over b. comes_stopped status.NoMemory (status.BadFile b) _ refl (λ same. cc)

pub returns-in-Err-NoMemory-clause-too_long : goal.returns-in-Err-NoMemory-clause-too_long
returns-in-Err-NoMemory-clause-too_long g c = λ d taken over. comes_stopped status.NoMemory status.TooLong _ refl (λ same. cc)

pub returns-in-Err-NoMemory-clause-ending : goal.returns-in-Err-NoMemory-clause-ending
returns-in-Err-NoMemory-clause-ending g c = λ d taken over. inr memory_stops

pub returns-in-Err-NoMemory-clause-file : goal.returns-in-Err-NoMemory-clause-file
returns-in-Err-NoMemory-clause-file g c = λ s taken over file of. writes_none (g.K.Sink.means c.args.out.now) file

pub returns-in-Err-NoMemory-clause-early : goal.returns-in-Err-NoMemory-clause-early
returns-in-Err-NoMemory-clause-early g c = λ s taken over long. absurd (omega (arith, unread _ taken over.took))

pub returns-in-Err-NoMemory-clause-report : goal.returns-in-Err-NoMemory-clause-report
returns-in-Err-NoMemory-clause-report g c = λ max_input taken over counts are. unsaid _ _ _

pub returns-in-Err-NoMemory-clause-taken : goal.returns-in-Err-NoMemory-clause-taken
returns-in-Err-NoMemory-clause-taken g c = λ d says reads bytes told. ([], none_taken _ bytes told, none_stops d _)

pub returns-in-Err-Usage-clause-compact_report : goal.returns-in-Err-Usage-clause-compact_report
returns-in-Err-Usage-clause-compact_report g c = λ s taken over counts are.
    absurd (broken_says_none c.words_are_a_line_or_break_a_rule.ensures c.args.words.now c.in-Err-Usage.field-0 c.in-Err-Usage.place (Compact s) c.in-Err-Usage.field-0-is c.in-Err-Usage.ensures.fault over.says)

pub returns-in-Err-NoMemory-clause-compact_report : goal.returns-in-Err-NoMemory-clause-compact_report
returns-in-Err-NoMemory-clause-compact_report g c = λ s taken over counts are. unsaid _ _ _

pub returns-in-Ok-Inspect-clause-refuses : goal.returns-in-Ok-Inspect-clause-refuses
returns-in-Ok-Inspect-clause-refuses g c = λ place breaks.
    absurd (broken_is_no_line c.words_are_a_line_or_break_a_rule.ensures c.args.words.now place breaks (Inspect c.in-Ok-Inspect.max_input, says_as c.args.words.now c.in-Ok-Inspect.field-0 _ c.in-Ok-Inspect.field-0-is c.in-Ok-Inspect.ensures.command))

pub returns-in-Ok-Inspect-clause-bad_capture : goal.returns-in-Ok-Inspect-clause-bad_capture
returns-in-Ok-Inspect-clause-bad_capture g c = λ d taken over b.
    refused_comes _ d taken _ (ended.BadCapture b) (capture_refusal b)
    (inspect_ends c.words_say_at_most_one_command.ensures c.args.words.now _ d _ _ _ _ _ _ c.inspect-ended.result taken _ (says_as c.args.words.now c.in-Ok-Inspect.field-0 _ c.in-Ok-Inspect.field-0-is c.in-Ok-Inspect.ensures.command) c.tell_inspect.ensures.tells c.inspect-ended.ensures.told over)

pub returns-in-Ok-Inspect-clause-bad_file : goal.returns-in-Ok-Inspect-clause-bad_file
returns-in-Ok-Inspect-clause-bad_file g c = λ d taken over b.
    refused_comes _ d taken _ (ended.BadFile b) (file_refusal b)
    (inspect_ends c.words_say_at_most_one_command.ensures c.args.words.now _ d _ _ _ _ _ _ c.inspect-ended.result taken _ (says_as c.args.words.now c.in-Ok-Inspect.field-0 _ c.in-Ok-Inspect.field-0-is c.in-Ok-Inspect.ensures.command) c.tell_inspect.ensures.tells c.inspect-ended.ensures.told over)

pub returns-in-Ok-Inspect-clause-too_long : goal.returns-in-Ok-Inspect-clause-too_long
returns-in-Ok-Inspect-clause-too_long g c = λ d taken over.
    too_long_comes _ d taken _
    (inspect_ends c.words_say_at_most_one_command.ensures c.args.words.now _ d _ _ _ _ _ _ c.inspect-ended.result taken _ (says_as c.args.words.now c.in-Ok-Inspect.field-0 _ c.in-Ok-Inspect.field-0-is c.in-Ok-Inspect.ensures.command) c.tell_inspect.ensures.tells c.inspect-ended.ensures.told over)

pub returns-in-Ok-Inspect-clause-ending : goal.returns-in-Ok-Inspect-clause-ending
returns-in-Ok-Inspect-clause-ending g c = λ d taken over.
    inspect_ends c.words_say_at_most_one_command.ensures c.args.words.now _ d _ _ _ _ _ _ c.inspect-ended.result taken _ (says_as c.args.words.now c.in-Ok-Inspect.field-0 _ c.in-Ok-Inspect.field-0-is c.in-Ok-Inspect.ensures.command) c.tell_inspect.ensures.tells c.inspect-ended.ensures.told over

pub returns-in-Ok-Inspect-clause-done : goal.returns-in-Ok-Inspect-clause-done
returns-in-Ok-Inspect-clause-done g c = λ d says reads is.
    c.inspect-ended.ensures.done (told_end_is inspect_report _ _ _ c.inspect-ended.result.0 ended.Done c.inspect-ended.result.1 c.tell_inspect.ensures.tells is (λ halt. halt))

pub returns-in-Ok-Inspect-clause-done_whole : goal.returns-in-Ok-Inspect-clause-done_whole
returns-in-Ok-Inspect-clause-done_whole g c = λ d says reads is.
    let done = told_end_is inspect_report _ _ _ c.inspect-ended.result.0 ended.Done c.inspect-ended.result.1 c.tell_inspect.ensures.tells is (λ halt. halt) in
    c.inspect-ended.ensures.at_end (done_goes c.inspect-ended.result.0 done) (c.inspect-ended.ensures.done done)

pub returns-in-Ok-Inspect-clause-read_fault : goal.returns-in-Ok-Inspect-clause-read_fault
returns-in-Ok-Inspect-clause-read_fault g c = λ is.
    c.inspect-ended.ensures.read_fault (told_end_is inspect_report _ _ _ c.inspect-ended.result.0 ended.ReadFault c.inspect-ended.result.1 c.tell_inspect.ensures.tells is (λ halt. halt))

pub returns-in-Ok-Inspect-clause-read_fault_told : goal.returns-in-Ok-Inspect-clause-read_fault_told
returns-in-Ok-Inspect-clause-read_fault_told g c = λ before now.
    told_ends_as inspect_report _ _ _ c.inspect-ended.result.0 ended.ReadFault c.inspect-ended.result.1 c.tell_inspect.ensures.tells (c.inspect-ended.ensures.read_fault_told before now)

pub returns-in-Ok-Inspect-clause-write_fault : goal.returns-in-Ok-Inspect-clause-write_fault
returns-in-Ok-Inspect-clause-write_fault g c = λ is.
    elim (c.tell_inspect.ensures.write_fault is) [
      | inl written ↦ inl (c.inspect-ended.ensures.write_fault written)
      | inr told ↦ inr told
    ]

pub returns-in-Ok-Inspect-clause-outranks_out : goal.returns-in-Ok-Inspect-clause-outranks_out
returns-in-Ok-Inspect-clause-outranks_out g c =
    outranks_told inspect_report _ _ _ _ _ c.inspect-ended.result.0 c.inspect-ended.result.1 c.tell_inspect.ensures.tells c.inspect-ended.ensures.outranks

pub returns-in-Ok-Inspect-clause-capture : goal.returns-in-Ok-Inspect-clause-capture
returns-in-Ok-Inspect-clause-capture g c = λ max_input taken over.
    inspect_writes c.words_say_at_most_one_command.ensures c.args.words.now _ max_input _ _ _ _ _ _ c.inspect-ended.result taken _ (says_as c.args.words.now c.in-Ok-Inspect.field-0 _ c.in-Ok-Inspect.field-0-is c.in-Ok-Inspect.ensures.command) c.tell_inspect.ensures.tells c.inspect-ended.ensures.told over

pub returns-in-Ok-Inspect-clause-early_capture : goal.returns-in-Ok-Inspect-clause-early_capture
returns-in-Ok-Inspect-clause-early_capture g c = λ max_input taken over long.
    (c.inspect-ended.ensures.told taken over.took).early long

pub returns-in-Ok-Inspect-clause-inspect_report : goal.returns-in-Ok-Inspect-clause-inspect_report
returns-in-Ok-Inspect-clause-inspect_report g c = λ max_input taken over counts are.
    inspect_reports c.words_say_at_most_one_command.ensures c.args.words.now _ max_input _ _ _ _ _ _ c.inspect-ended.result taken counts _ (says_as c.args.words.now c.in-Ok-Inspect.field-0 _ c.in-Ok-Inspect.field-0-is c.in-Ok-Inspect.ensures.command) c.tell_inspect.ensures.tells c.inspect-ended.ensures.told over are

pub returns-in-Ok-Inspect-clause-unended : goal.returns-in-Ok-Inspect-clause-unended
returns-in-Ok-Inspect-clause-unended g c = λ d taken over unended.
    inspect_unended c.words_say_at_most_one_command.ensures c.args.words.now _ d _ _ _ _ _ _ c.inspect-ended.result taken _ (says_as c.args.words.now c.in-Ok-Inspect.field-0 _ c.in-Ok-Inspect.field-0-is c.in-Ok-Inspect.ensures.command) c.tell_inspect.ensures.tells c.inspect-ended.ensures.told over unended c.inspect-ended.ensures.read_fault

pub returns-in-Ok-Inspect-clause-unwritten : goal.returns-in-Ok-Inspect-clause-unwritten
returns-in-Ok-Inspect-clause-unwritten g c = λ d says sound refused.
    (at_stop c.inspect-ended.result.0 _ _ (c.inspect-ended.ensures.outranks.refused sound refused) c.tell_inspect.ensures.tells).1

pub returns-in-Ok-Inspect-clause-taken : goal.returns-in-Ok-Inspect-clause-taken
returns-in-Ok-Inspect-clause-taken g c = λ d says reads bytes told.
    inspect_takes c.words_say_at_most_one_command.ensures c.args.words.now _ d _ _ _ _ _ bytes (says_as c.args.words.now c.in-Ok-Inspect.field-0 _ c.in-Ok-Inspect.field-0-is c.in-Ok-Inspect.ensures.command) says told c.inspect-ended.ensures.inspects

pub returns-in-Ok-Inspect-clause-complete_inspect : goal.returns-in-Ok-Inspect-clause-complete_inspect
returns-in-Ok-Inspect-clause-complete_inspect g c = λ max_input says bytes left whole reads writes reports.
    completes inspect_report _ _ _ c.inspect-ended.result.0 c.inspect-ended.result.1 c.tell_inspect.ensures.tells
    (λ is. elim (c.tell_inspect.ensures.write_fault is) [
      | inl written ↦ writes (c.inspect-ended.ensures.write_fault written)
      | inr told ↦ reports told
    ])
    (c.inspect-ended.ensures.complete bytes left (whole_as_said c.words_say_at_most_one_command.ensures c.args.words.now (Inspect c.in-Ok-Inspect.max_input) (Inspect max_input) bytes (says_as c.args.words.now c.in-Ok-Inspect.field-0 _ c.in-Ok-Inspect.field-0-is c.in-Ok-Inspect.ensures.command) says whole) reads writes)

pub returns-in-Ok-Drill-clause-usage : goal.returns-in-Ok-Drill-clause-usage
returns-in-Ok-Drill-clause-usage g c =
    line_comes c.args.words.now (Drill c.in-Ok-Drill.settings) _ (says_as c.args.words.now c.in-Ok-Drill.field-0 _ c.in-Ok-Drill.field-0-is c.in-Ok-Drill.ensures.command) (ends_no_usage _ ended.Done c.drill.ensures.tells.ends)

pub returns-in-Ok-Drill-clause-refuses : goal.returns-in-Ok-Drill-clause-refuses
returns-in-Ok-Drill-clause-refuses g c = λ place breaks.
    absurd (broken_is_no_line c.words_are_a_line_or_break_a_rule.ensures c.args.words.now place breaks (Drill c.in-Ok-Drill.settings, says_as c.args.words.now c.in-Ok-Drill.field-0 _ c.in-Ok-Drill.field-0-is c.in-Ok-Drill.ensures.command))

pub returns-in-Ok-Drill-clause-bad_capture : goal.returns-in-Ok-Drill-clause-bad_capture
returns-in-Ok-Drill-clause-bad_capture g c = λ d taken over b.
    absurd (drill_reads_none c.words_say_at_most_one_command.ensures c.args.words.now c.in-Ok-Drill.settings d (says_as c.args.words.now c.in-Ok-Drill.field-0 _ c.in-Ok-Drill.field-0-is c.in-Ok-Drill.ensures.command) over.says over.reads)

pub returns-in-Ok-Drill-clause-bad_file : goal.returns-in-Ok-Drill-clause-bad_file
returns-in-Ok-Drill-clause-bad_file g c = λ d taken over b.
    absurd (drill_reads_none c.words_say_at_most_one_command.ensures c.args.words.now c.in-Ok-Drill.settings d (says_as c.args.words.now c.in-Ok-Drill.field-0 _ c.in-Ok-Drill.field-0-is c.in-Ok-Drill.ensures.command) over.says over.reads)

pub returns-in-Ok-Drill-clause-too_long : goal.returns-in-Ok-Drill-clause-too_long
returns-in-Ok-Drill-clause-too_long g c = λ d taken over.
    absurd (drill_reads_none c.words_say_at_most_one_command.ensures c.args.words.now c.in-Ok-Drill.settings d (says_as c.args.words.now c.in-Ok-Drill.field-0 _ c.in-Ok-Drill.field-0-is c.in-Ok-Drill.ensures.command) over.says over.reads)

pub returns-in-Ok-Drill-clause-ending : goal.returns-in-Ok-Drill-clause-ending
returns-in-Ok-Drill-clause-ending g c = λ d taken over.
    absurd (drill_reads_none c.words_say_at_most_one_command.ensures c.args.words.now c.in-Ok-Drill.settings d (says_as c.args.words.now c.in-Ok-Drill.field-0 _ c.in-Ok-Drill.field-0-is c.in-Ok-Drill.ensures.command) over.says over.reads)

pub returns-in-Ok-Drill-clause-done : goal.returns-in-Ok-Drill-clause-done
returns-in-Ok-Drill-clause-done g c = λ d says reads is.
    absurd (drill_reads_none c.words_say_at_most_one_command.ensures c.args.words.now c.in-Ok-Drill.settings d (says_as c.args.words.now c.in-Ok-Drill.field-0 _ c.in-Ok-Drill.field-0-is c.in-Ok-Drill.ensures.command) says reads)

pub returns-in-Ok-Drill-clause-done_whole : goal.returns-in-Ok-Drill-clause-done_whole
returns-in-Ok-Drill-clause-done_whole g c = λ d says reads is.
    absurd (drill_reads_none c.words_say_at_most_one_command.ensures c.args.words.now c.in-Ok-Drill.settings d (says_as c.args.words.now c.in-Ok-Drill.field-0 _ c.in-Ok-Drill.field-0-is c.in-Ok-Drill.ensures.command) says reads)

pub returns-in-Ok-Drill-clause-read_fault : goal.returns-in-Ok-Drill-clause-read_fault
returns-in-Ok-Drill-clause-read_fault g c = λ is.
    absurd (no_read_fault _ c.drill.ensures.tells.ends is)

pub returns-in-Ok-Drill-clause-file : goal.returns-in-Ok-Drill-clause-file
returns-in-Ok-Drill-clause-file g c = λ s taken over file of.
    absurd (drill_reads_none c.words_say_at_most_one_command.ensures c.args.words.now c.in-Ok-Drill.settings (Compact s) (says_as c.args.words.now c.in-Ok-Drill.field-0 _ c.in-Ok-Drill.field-0-is c.in-Ok-Drill.ensures.command) over.says over.reads)

pub returns-in-Ok-Drill-clause-early : goal.returns-in-Ok-Drill-clause-early
returns-in-Ok-Drill-clause-early g c = λ s taken over long front is.
    absurd (drill_reads_none c.words_say_at_most_one_command.ensures c.args.words.now c.in-Ok-Drill.settings (Compact s) (says_as c.args.words.now c.in-Ok-Drill.field-0 _ c.in-Ok-Drill.field-0-is c.in-Ok-Drill.ensures.command) over.says over.reads)

pub returns-in-Ok-Drill-clause-capture : goal.returns-in-Ok-Drill-clause-capture
returns-in-Ok-Drill-clause-capture g c = λ max_input taken over.
    absurd (drill_reads_none c.words_say_at_most_one_command.ensures c.args.words.now c.in-Ok-Drill.settings (Inspect max_input) (says_as c.args.words.now c.in-Ok-Drill.field-0 _ c.in-Ok-Drill.field-0-is c.in-Ok-Drill.ensures.command) over.says over.reads)

pub returns-in-Ok-Drill-clause-early_capture : goal.returns-in-Ok-Drill-clause-early_capture
returns-in-Ok-Drill-clause-early_capture g c = λ max_input taken over long.
    absurd (drill_reads_none c.words_say_at_most_one_command.ensures c.args.words.now c.in-Ok-Drill.settings (Inspect max_input) (says_as c.args.words.now c.in-Ok-Drill.field-0 _ c.in-Ok-Drill.field-0-is c.in-Ok-Drill.ensures.command) over.says over.reads)

pub returns-in-Ok-Drill-clause-compact_report : goal.returns-in-Ok-Drill-clause-compact_report
returns-in-Ok-Drill-clause-compact_report g c = λ s taken over counts are.
    absurd (drill_reads_none c.words_say_at_most_one_command.ensures c.args.words.now c.in-Ok-Drill.settings (Compact s) (says_as c.args.words.now c.in-Ok-Drill.field-0 _ c.in-Ok-Drill.field-0-is c.in-Ok-Drill.ensures.command) over.says over.reads)

pub returns-in-Ok-Drill-clause-report : goal.returns-in-Ok-Drill-clause-report
returns-in-Ok-Drill-clause-report g c = λ max_input taken over counts are.
    absurd (drill_reads_none c.words_say_at_most_one_command.ensures c.args.words.now c.in-Ok-Drill.settings (Check max_input) (says_as c.args.words.now c.in-Ok-Drill.field-0 _ c.in-Ok-Drill.field-0-is c.in-Ok-Drill.ensures.command) over.says over.reads)

pub returns-in-Ok-Drill-clause-inspect_report : goal.returns-in-Ok-Drill-clause-inspect_report
returns-in-Ok-Drill-clause-inspect_report g c = λ max_input taken over counts are.
    absurd (drill_reads_none c.words_say_at_most_one_command.ensures c.args.words.now c.in-Ok-Drill.settings (Inspect max_input) (says_as c.args.words.now c.in-Ok-Drill.field-0 _ c.in-Ok-Drill.field-0-is c.in-Ok-Drill.ensures.command) over.says over.reads)

pub returns-in-Ok-Drill-clause-unended : goal.returns-in-Ok-Drill-clause-unended
returns-in-Ok-Drill-clause-unended g c = λ d taken over unended.
    absurd (drill_reads_none c.words_say_at_most_one_command.ensures c.args.words.now c.in-Ok-Drill.settings d (says_as c.args.words.now c.in-Ok-Drill.field-0 _ c.in-Ok-Drill.field-0-is c.in-Ok-Drill.ensures.command) over.says over.reads)

pub returns-in-Ok-Drill-clause-taken : goal.returns-in-Ok-Drill-clause-taken
returns-in-Ok-Drill-clause-taken g c = λ d says reads bytes told.
    absurd (drill_reads_none c.words_say_at_most_one_command.ensures c.args.words.now c.in-Ok-Drill.settings d (says_as c.args.words.now c.in-Ok-Drill.field-0 _ c.in-Ok-Drill.field-0-is c.in-Ok-Drill.ensures.command) says reads)

pub returns-in-Ok-Drill-clause-summary : goal.returns-in-Ok-Drill-clause-summary
returns-in-Ok-Drill-clause-summary g c = λ settings says text is.
    c.drill.ensures.summary text (subst (λ t. IsSummary t text) (sym (drill_same c.words_say_at_most_one_command.ensures c.args.words.now c.in-Ok-Drill.settings settings (says_as c.args.words.now c.in-Ok-Drill.field-0 _ c.in-Ok-Drill.field-0-is c.in-Ok-Drill.ensures.command) says)) is)

pub returns-in-Ok-Drill-clause-complete_drill : goal.returns-in-Ok-Drill-clause-complete_drill
returns-in-Ok-Drill-clause-complete_drill g c = λ settings says writes reports.
    ends_complete _ c.drill.ensures.tells.ends
    (λ is. elim (c.drill.ensures.write_fault is) [
      | inl written ↦ writes written
      | inr told ↦ reports told
    ])

pub returns-in-Ok-Compact-clause-projection : goal.returns-in-Ok-Compact-clause-projection
returns-in-Ok-Compact-clause-projection g c = λ s taken file over ranges bytes is.
    projected c.what_is_kept_is_rebuilt.ensures.capture c.commands_have_valid_settings.ensures c.args.words.now _ _ s taken file over ranges bytes is

pub returns-in-Ok-Check-clause-projection : goal.returns-in-Ok-Check-clause-projection
returns-in-Ok-Check-clause-projection g c = λ s taken file over ranges bytes is.
    projected c.what_is_kept_is_rebuilt.ensures.capture c.commands_have_valid_settings.ensures c.args.words.now _ _ s taken file over ranges bytes is

pub returns-in-Ok-Inspect-clause-projection : goal.returns-in-Ok-Inspect-clause-projection
returns-in-Ok-Inspect-clause-projection g c = λ s taken file over ranges bytes is.
    projected c.what_is_kept_is_rebuilt.ensures.capture c.commands_have_valid_settings.ensures c.args.words.now _ _ s taken file over ranges bytes is

pub returns-in-Ok-Drill-clause-projection : goal.returns-in-Ok-Drill-clause-projection
returns-in-Ok-Drill-clause-projection g c = λ s taken file over ranges bytes is.
    projected c.what_is_kept_is_rebuilt.ensures.capture c.commands_have_valid_settings.ensures c.args.words.now _ _ s taken file over ranges bytes is

pub returns-in-Err-Usage-clause-projection : goal.returns-in-Err-Usage-clause-projection
returns-in-Err-Usage-clause-projection g c = λ s taken file over ranges bytes is.
    projected c.what_is_kept_is_rebuilt.ensures.capture c.commands_have_valid_settings.ensures c.args.words.now _ _ s taken file over ranges bytes is

pub returns-in-Err-NoMemory-clause-projection : goal.returns-in-Err-NoMemory-clause-projection
returns-in-Err-NoMemory-clause-projection g c = λ s taken file over ranges bytes is.
    projected c.what_is_kept_is_rebuilt.ensures.capture c.commands_have_valid_settings.ensures c.args.words.now _ _ s taken file over ranges bytes is

pub returns-in-Err-Usage-clause-capture : goal.returns-in-Err-Usage-clause-capture
returns-in-Err-Usage-clause-capture g c = λ max_input taken over.
    absurd (broken_says_none c.words_are_a_line_or_break_a_rule.ensures c.args.words.now c.in-Err-Usage.field-0 c.in-Err-Usage.place (Inspect max_input) c.in-Err-Usage.field-0-is c.in-Err-Usage.ensures.fault over.says)

pub returns-in-Err-Usage-clause-early_capture : goal.returns-in-Err-Usage-clause-early_capture
returns-in-Err-Usage-clause-early_capture g c = λ max_input taken over long.
    absurd (broken_says_none c.words_are_a_line_or_break_a_rule.ensures c.args.words.now c.in-Err-Usage.field-0 c.in-Err-Usage.place (Inspect max_input) c.in-Err-Usage.field-0-is c.in-Err-Usage.ensures.fault over.says)

pub returns-in-Err-Usage-clause-inspect_report : goal.returns-in-Err-Usage-clause-inspect_report
returns-in-Err-Usage-clause-inspect_report g c = λ max_input taken over counts are.
    absurd (broken_says_none c.words_are_a_line_or_break_a_rule.ensures c.args.words.now c.in-Err-Usage.field-0 c.in-Err-Usage.place (Inspect max_input) c.in-Err-Usage.field-0-is c.in-Err-Usage.ensures.fault over.says)

pub returns-in-Err-Usage-clause-summary : goal.returns-in-Err-Usage-clause-summary
returns-in-Err-Usage-clause-summary g c = λ settings says text is.
    absurd (broken_says_none c.words_are_a_line_or_break_a_rule.ensures c.args.words.now c.in-Err-Usage.field-0 c.in-Err-Usage.place (Drill settings) c.in-Err-Usage.field-0-is c.in-Err-Usage.ensures.fault says)

pub returns-in-Err-Usage-clause-drill_report : goal.returns-in-Err-Usage-clause-drill_report
returns-in-Err-Usage-clause-drill_report g c = λ settings says.
    absurd (broken_says_none c.words_are_a_line_or_break_a_rule.ensures c.args.words.now c.in-Err-Usage.field-0 c.in-Err-Usage.place (Drill settings) c.in-Err-Usage.field-0-is c.in-Err-Usage.ensures.fault says)

pub returns-in-Err-NoMemory-clause-capture : goal.returns-in-Err-NoMemory-clause-capture
returns-in-Err-NoMemory-clause-capture g c = λ max_input taken over.
    writes_none (g.K.Sink.means c.args.out.now) _

pub returns-in-Err-NoMemory-clause-early_capture : goal.returns-in-Err-NoMemory-clause-early_capture
returns-in-Err-NoMemory-clause-early_capture g c = λ max_input taken over long.
    absurd (omega (arith, unread _ taken over.took))

pub returns-in-Err-NoMemory-clause-inspect_report : goal.returns-in-Err-NoMemory-clause-inspect_report
returns-in-Err-NoMemory-clause-inspect_report g c = λ max_input taken over counts are.
    unsaid _ _ _

pub returns-in-Err-NoMemory-clause-summary : goal.returns-in-Err-NoMemory-clause-summary
returns-in-Err-NoMemory-clause-summary g c = λ settings says text is.
    writes_none (g.K.Sink.means c.args.out.now) text

pub returns-in-Err-NoMemory-clause-drill_report : goal.returns-in-Err-NoMemory-clause-drill_report
returns-in-Err-NoMemory-clause-drill_report g c = λ settings says.
    unsaid _ _ _

pub returns-in-Err-Usage-clause-usage : goal.returns-in-Err-Usage-clause-usage
returns-in-Err-Usage-clause-usage g c =
    broken_comes c.words_are_a_line_or_break_a_rule.ensures c.args.words.now c.in-Err-Usage.field-0 c.in-Err-Usage.place _ _ _ c.in-Err-Usage.field-0-is c.in-Err-Usage.ensures.fault c.refuse.ensures.refuses

pub returns-in-Err-Usage-clause-bad_capture : goal.returns-in-Err-Usage-clause-bad_capture
returns-in-Err-Usage-clause-bad_capture g c = λ d taken over b.
    absurd (broken_says_none c.words_are_a_line_or_break_a_rule.ensures c.args.words.now c.in-Err-Usage.field-0 c.in-Err-Usage.place d c.in-Err-Usage.field-0-is c.in-Err-Usage.ensures.fault over.says)

pub returns-in-Err-Usage-clause-bad_file : goal.returns-in-Err-Usage-clause-bad_file
returns-in-Err-Usage-clause-bad_file g c = λ d taken over b.
    absurd (broken_says_none c.words_are_a_line_or_break_a_rule.ensures c.args.words.now c.in-Err-Usage.field-0 c.in-Err-Usage.place d c.in-Err-Usage.field-0-is c.in-Err-Usage.ensures.fault over.says)

pub returns-in-Err-Usage-clause-file : goal.returns-in-Err-Usage-clause-file
returns-in-Err-Usage-clause-file g c = λ s taken over file of.
    absurd (broken_says_none c.words_are_a_line_or_break_a_rule.ensures c.args.words.now c.in-Err-Usage.field-0 c.in-Err-Usage.place (Compact s) c.in-Err-Usage.field-0-is c.in-Err-Usage.ensures.fault over.says)

pub returns-in-Err-Usage-clause-unended : goal.returns-in-Err-Usage-clause-unended
returns-in-Err-Usage-clause-unended g c = λ d taken over unended.
    absurd (broken_says_none c.words_are_a_line_or_break_a_rule.ensures c.args.words.now c.in-Err-Usage.field-0 c.in-Err-Usage.place d c.in-Err-Usage.field-0-is c.in-Err-Usage.ensures.fault over.says)

pub returns-in-Err-Usage-clause-complete : goal.returns-in-Err-Usage-clause-complete
returns-in-Err-Usage-clause-complete g c = λ s says bytes left served reads writes reports.
    absurd (broken_says_none c.words_are_a_line_or_break_a_rule.ensures c.args.words.now c.in-Err-Usage.field-0 c.in-Err-Usage.place (Compact s) c.in-Err-Usage.field-0-is c.in-Err-Usage.ensures.fault says)

pub returns-in-Err-Usage-clause-complete_check : goal.returns-in-Err-Usage-clause-complete_check
returns-in-Err-Usage-clause-complete_check g c = λ max_input says bytes left whole quiet unfailed.
    absurd (broken_says_none c.words_are_a_line_or_break_a_rule.ensures c.args.words.now c.in-Err-Usage.field-0 c.in-Err-Usage.place (Check max_input) c.in-Err-Usage.field-0-is c.in-Err-Usage.ensures.fault says)

pub returns-in-Err-Usage-clause-complete_inspect : goal.returns-in-Err-Usage-clause-complete_inspect
returns-in-Err-Usage-clause-complete_inspect g c = λ max_input says bytes left whole reads writes reports.
    absurd (broken_says_none c.words_are_a_line_or_break_a_rule.ensures c.args.words.now c.in-Err-Usage.field-0 c.in-Err-Usage.place (Inspect max_input) c.in-Err-Usage.field-0-is c.in-Err-Usage.ensures.fault says)

pub returns-in-Err-Usage-clause-complete_drill : goal.returns-in-Err-Usage-clause-complete_drill
returns-in-Err-Usage-clause-complete_drill g c = λ settings says writes reports.
    absurd (broken_says_none c.words_are_a_line_or_break_a_rule.ensures c.args.words.now c.in-Err-Usage.field-0 c.in-Err-Usage.place (Drill settings) c.in-Err-Usage.field-0-is c.in-Err-Usage.ensures.fault says)
