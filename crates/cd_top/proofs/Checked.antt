-- What a run answers whose words say `check`, by the check of its bytes.
use Rattle.std.proofs.Common.{◌≡◌, ℕ, List, Some, sym, ◌∙◌, subst}
use Rattle.std.specs.Prelude.{take}
use Rattle.cd_drive.specs.Driving.{IsTaken}
use Rattle.cd_engine.specs.Checking.{judging_files, AreReadCountsOf, Checks, ChecksTold, ChecksTaken, IsWholeFile}
use Rattle.cd_engine.specs.declared.ended.Ended.{Ended}
use Rattle.cd_engine.specs.declared.ended.Ended.TheVariants as ended
use Rattle.cd_inspection.specs.ReadCounting.{no_read_counts}
use Rattle.cd_inspection.specs.declared.counting.ReadCounts.{ReadCounts}
use Rattle.cd_ports.specs.Counter.{Rose}
use Rattle.cd_ports.specs.Reading.{SourceMeaning}
use Rattle.cd_ports.specs.Writing.{SinkMeaning}
use Rattle.cd_words.specs.Commands.{SaysCommand}
use Rattle.cd_words.specs.Laws.{CommandsAreOne}
use Rattle.cd_words.specs.declared.command.Command.{Command}
use Rattle.cd_words.specs.declared.command.Command.TheVariants.{Check}
use Rattle.cd_top.specs.Reports.{check_report, ReportsCheck, TellsCheck}
use Rattle.cd_top.specs.Run.{RunsOver, IsUnended, ended_by, max_input_of, used_bytes, StopsReading}
use Rattle.cd_top.specs.Statuses.{status_of, EndsAs}
use Rattle.cd_top.specs.declared.status.Status.{Status}
use Rattle.cd_top.proofs.Judged.{check_judges, read_ends, read_reports, read_unended, read_takes}

-- the run ends as the bytes taken say
pub check_ends : CommandsAreOne → (words : List (List ℕ)) (m : ℕ) (c : Command) (so sn : SourceMeaning) (old new : SinkMeaning) (x : Ended × ReadCounts)
    (taken : List ℕ) (r : Status) → SaysCommand words (Check m) → TellsCheck old new r x.0 x.1 → ChecksTold m so sn x → RunsOver words so sn c taken →
    EndsAs r (status_of (ended_by c taken sn.ended))
check_ends one words m c so sn old new x taken r said h told over =
    read_ends judging_files m check_report one words (Check m) c (check_judges m) said so sn old new x.0 x.1 taken r h (told taken over.took).ending over.says

-- the report says what was counted in the bytes that are used
pub check_reports : CommandsAreOne → (words : List (List ℕ)) (m n : ℕ) (so sn : SourceMeaning) (old new : SinkMeaning) (x : Ended × ReadCounts)
    (taken : List ℕ) (counts : ReadCounts) (r : Status) → SaysCommand words (Check m) → TellsCheck old new r x.0 x.1 → ChecksTold m so sn x →
    RunsOver words so sn (Check n) taken → AreReadCountsOf (used_bytes (Check n) taken) counts →
    ReportsCheck old new r counts (status_of (ended_by (Check n) taken sn.ended))
check_reports one words m n so sn old new x taken counts r said h told over are =
    let Are : Command → Type 0 = λ d. AreReadCountsOf (used_bytes d taken) counts in
    read_reports judging_files m check_report one words (Check m) (Check n) (check_judges m) said Are (AreReadCountsOf (take m taken) x.1) so sn old new x.0 x.1
    counts no_read_counts taken r (λ there here. there ∙ sym here) h (told taken over.took).ending (told taken over.took).counts over.says are

-- where nothing ended the input nothing is reported
pub check_unended : CommandsAreOne → (words : List (List ℕ)) (m : ℕ) (c : Command) (so sn : SourceMeaning) (old new : SinkMeaning) (x : Ended × ReadCounts)
    (taken : List ℕ) (r : Status) → SaysCommand words (Check m) → TellsCheck old new r x.0 x.1 → ChecksTold m so sn x → RunsOver words so sn c taken →
    IsUnended c so sn taken → (x.0 ≡ ended.ReadFault → Rose so.faults sn.faults) → new ≡ old
check_unended one words m c so sn old new x taken r said h told over unended cause =
    read_unended judging_files m check_report one words (Check m) c (check_judges m) said so sn old new x.0 x.1 taken r h (told taken over.took).ending over.says
    unended cause

-- some bytes were taken, and reading stops in time
pub check_takes : CommandsAreOne → (words : List (List ℕ)) (m : ℕ) (c : Command) (so sn : SourceMeaning) (x : Ended × ReadCounts) (bytes : List ℕ) →
    SaysCommand words (Check m) → SaysCommand words c → so.left ≡ Some bytes → Checks m so sn x → (taken : List ℕ) × IsTaken so sn taken × StopsReading c so sn taken
check_takes one words m c so sn x bytes said says told took =
    let P : List ℕ → Type 0 = λ taken. ChecksTaken m so sn x taken in
    read_takes judging_files m check_report one words (Check m) c (check_judges m) said so sn P bytes (λ taken h. h.stops) says told took

-- a file that is whole under the limit that the words say
pub whole_as_said : CommandsAreOne → (words : List (List ℕ)) (c d : Command) (bytes : List ℕ) → SaysCommand words c → SaysCommand words d →
    IsWholeFile (max_input_of d) bytes → IsWholeFile (max_input_of c) bytes
whole_as_said one words c d bytes first second whole =
    let P : Command → Type 0 = λ x. IsWholeFile (max_input_of x) bytes in
    subst P (one words d c second first) whole
