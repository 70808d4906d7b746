-- What a run answers whose words say `inspect`, by the inspection of its bytes.
use Rattle.std.proofs.Common.{◌≡◌, ℕ, List, Some, sym, ◌∙◌, subst}
use Rattle.std.specs.Prelude.{take}
use Rattle.cd_drive.specs.Driving.{IsTaken}
use Rattle.cd_engine.specs.Checking.{judging_files}
use Rattle.cd_engine.specs.Inspecting.{Inspects, InspectsTold, InspectsTaken}
use Rattle.cd_engine.specs.declared.ended.Ended.{Ended}
use Rattle.cd_engine.specs.declared.ended.Ended.TheVariants as ended
use Rattle.cd_inspection.specs.ReadCounting.{no_read_counts}
use Rattle.cd_inspection.specs.Rebuilding.{AreRebuiltCountsOf, rebuilt_capture}
use Rattle.cd_inspection.specs.declared.counting.ReadCounts.{ReadCounts}
use Rattle.cd_ports.specs.Counter.{Rose}
use Rattle.cd_ports.specs.Reading.{SourceMeaning}
use Rattle.cd_ports.specs.Writing.{SinkMeaning}
use Rattle.cd_words.specs.Commands.{SaysCommand}
use Rattle.cd_words.specs.Laws.{CommandsAreOne}
use Rattle.cd_words.specs.declared.command.Command.{Command}
use Rattle.cd_words.specs.declared.command.Command.TheVariants.{Inspect}
use Rattle.cd_top.specs.Reports.{inspect_report, ReportsInspect, TellsInspect}
use Rattle.cd_top.specs.Run.{RunsOver, IsUnended, ended_by, used_bytes, StopsReading}
use Rattle.cd_top.specs.Statuses.{status_of, EndsAs, Writes}
use Rattle.cd_top.specs.declared.status.Status.{Status}
use Rattle.cd_top.proofs.Judged.{inspect_judges, read_ends, read_reports, read_unended, read_takes}
use Rattle.cd_top.proofs.Telling.{writes_told}

-- the run ends as the bytes taken say
pub inspect_ends : CommandsAreOne → (words : List (List ℕ)) (m : ℕ) (c : Command) (so sn : SourceMeaning) (ko kn old new : SinkMeaning) (x : Ended × ReadCounts)
    (taken : List ℕ) (r : Status) → SaysCommand words (Inspect m) → TellsInspect old new r x.0 x.1 → InspectsTold m so sn ko kn x → RunsOver words so sn c taken →
    EndsAs r (status_of (ended_by c taken sn.ended))
inspect_ends one words m c so sn ko kn old new x taken r said h told over =
    read_ends judging_files m inspect_report one words (Inspect m) c (inspect_judges m) said so sn old new x.0 x.1 taken r h (told taken over.took).ending over.says

-- the capture that is rebuilt of the bytes used is written
pub inspect_writes : CommandsAreOne → (words : List (List ℕ)) (m n : ℕ) (so sn : SourceMeaning) (ko kn old new : SinkMeaning) (x : Ended × ReadCounts)
    (taken : List ℕ) (r : Status) → SaysCommand words (Inspect m) → TellsInspect old new r x.0 x.1 → InspectsTold m so sn ko kn x → RunsOver words so sn (Inspect n) taken →
    Writes ko kn r (rebuilt_capture (used_bytes (Inspect n) taken))
inspect_writes one words m n so sn ko kn old new x taken r said h told over =
    let P : Command → Type 0 = λ d. Writes ko kn r (rebuilt_capture (used_bytes d taken)) in
    subst P (one words (Inspect m) (Inspect n) said over.says)
    (writes_told inspect_report ko kn old new r x.0 x.1 (rebuilt_capture (take m taken)) h (told taken over.took).capture)

-- the report says what was counted in the bytes that are used, and of what is rebuilt of them
pub inspect_reports : CommandsAreOne → (words : List (List ℕ)) (m n : ℕ) (so sn : SourceMeaning) (ko kn old new : SinkMeaning) (x : Ended × ReadCounts)
    (taken : List ℕ) (counts : ReadCounts) (r : Status) → SaysCommand words (Inspect m) → TellsInspect old new r x.0 x.1 → InspectsTold m so sn ko kn x →
    RunsOver words so sn (Inspect n) taken → AreRebuiltCountsOf (used_bytes (Inspect n) taken) counts →
    ReportsInspect old new r counts (status_of (ended_by (Inspect n) taken sn.ended))
inspect_reports one words m n so sn ko kn old new x taken counts r said h told over are =
    let Are : Command → Type 0 = λ d. AreRebuiltCountsOf (used_bytes d taken) counts in
    read_reports judging_files m inspect_report one words (Inspect m) (Inspect n) (inspect_judges m) said Are (AreRebuiltCountsOf (take m taken) x.1) so sn old new
    x.0 x.1 counts no_read_counts taken r (λ there here. there ∙ sym here) h (told taken over.took).ending (told taken over.took).counts over.says are

-- where nothing ended the input nothing is reported
pub inspect_unended : CommandsAreOne → (words : List (List ℕ)) (m : ℕ) (c : Command) (so sn : SourceMeaning) (ko kn old new : SinkMeaning) (x : Ended × ReadCounts)
    (taken : List ℕ) (r : Status) → SaysCommand words (Inspect m) → TellsInspect old new r x.0 x.1 → InspectsTold m so sn ko kn x → RunsOver words so sn c taken →
    IsUnended c so sn taken → (x.0 ≡ ended.ReadFault → Rose so.faults sn.faults) → new ≡ old
inspect_unended one words m c so sn ko kn old new x taken r said h told over unended cause =
    read_unended judging_files m inspect_report one words (Inspect m) c (inspect_judges m) said so sn old new x.0 x.1 taken r h (told taken over.took).ending
    over.says unended cause

-- some bytes were taken, and reading stops in time
pub inspect_takes : CommandsAreOne → (words : List (List ℕ)) (m : ℕ) (c : Command) (so sn : SourceMeaning) (ko kn : SinkMeaning) (x : Ended × ReadCounts)
    (bytes : List ℕ) → SaysCommand words (Inspect m) → SaysCommand words c → so.left ≡ Some bytes → Inspects m so sn ko kn x →
    (taken : List ℕ) × IsTaken so sn taken × StopsReading c so sn taken
inspect_takes one words m c so sn ko kn x bytes said says told took =
    let P : List ℕ → Type 0 = λ taken. InspectsTaken m so sn ko kn x taken in
    read_takes judging_files m inspect_report one words (Inspect m) c (inspect_judges m) said so sn P bytes (λ taken h. h.stops) says told took
