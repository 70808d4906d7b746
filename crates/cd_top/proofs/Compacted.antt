-- What a run answers whose words say `compact`, by the compaction under their settings.
use Rattle.std.proofs.Common.{◌≡◌, ℕ, List, Some, sym, ◌∙◌, subst}
use Rattle.std.specs.Prelude.{take, ⊤}
use Rattle.cd_drive.specs.Driving.{IsTaken}
use Rattle.cd_engine.specs.Compacting.{Compacts, CompactsTold, CompactsTaken, IsServedCapture}
use Rattle.cd_engine.specs.Compactions.{IsFileOf}
use Rattle.cd_engine.specs.Endings.{judging_captures}
use Rattle.cd_engine.specs.Counting.{AreCountsOf, no_counts}
use Rattle.cd_engine.specs.declared.counts.Counts.{Counts}
use Rattle.cd_engine.specs.declared.ended.Ended.{Ended}
use Rattle.cd_engine.specs.declared.ended.Ended.TheVariants as ended
use Rattle.cd_engine.proofs.OneFile.{counts_only}
use Rattle.cd_hints.specs.declared.settings.Settings.{Settings}
use Rattle.cd_ports.specs.Counter.{Rose}
use Rattle.cd_ports.specs.Reading.{SourceMeaning}
use Rattle.cd_ports.specs.Writing.{SinkMeaning}
use Rattle.cd_words.specs.Commands.{SaysCommand}
use Rattle.cd_words.specs.Laws.{CommandsAreOne}
use Rattle.cd_words.specs.declared.command.Command.{Command}
use Rattle.cd_words.specs.declared.command.Command.TheVariants.{Compact, Check, Inspect, Drill}
use Rattle.cd_top.specs.Reports.{compact_report, ReportsCompact, TellsCompact}
use Rattle.cd_top.specs.Run.{RunsOver, IsUnended, ended_by, used_bytes, StopsReading}
use Rattle.cd_top.specs.Statuses.{status_of, EndsAs, Writes}
use Rattle.cd_top.specs.declared.status.Status.{Status}
use Rattle.cd_top.proofs.Judged.{compact_judges, read_ends, read_reports, read_unended, read_takes}
use Rattle.cd_top.proofs.Telling.{writes_told}

-- the words say these settings
pub same_settings : CommandsAreOne → (words : List (List ℕ)) (t s : Settings) → SaysCommand words (Compact t) → SaysCommand words (Compact s) → t ≡ s
same_settings one words t s first second = inner t s (one words (Compact t) (Compact s) first second)
  where
    inner : (t s : Settings) → Compact t ≡ Compact s → t ≡ s
    inner t s same = cc

-- the run ends as the bytes taken say
pub compact_ends : CommandsAreOne → (words : List (List ℕ)) (t : Settings) (c : Command) (so sn : SourceMeaning) (ko kn old new : SinkMeaning) (x : Ended × Counts)
    (taken : List ℕ) (r : Status) → SaysCommand words (Compact t) → TellsCompact old new r x.0 x.1 → CompactsTold t so sn ko kn x → RunsOver words so sn c taken →
    EndsAs r (status_of (ended_by c taken sn.ended))
compact_ends one words t c so sn ko kn old new x taken r said h told over =
    read_ends judging_captures t.max_input compact_report one words (Compact t) c (compact_judges t) said so sn old new x.0 x.1 taken r h
    (told taken over.took).ending over.says

-- the file of the bytes used is written
pub compact_writes : CommandsAreOne → (words : List (List ℕ)) (t s : Settings) (so sn : SourceMeaning) (ko kn old new : SinkMeaning) (x : Ended × Counts)
    (taken file : List ℕ) (r : Status) → SaysCommand words (Compact t) → TellsCompact old new r x.0 x.1 → CompactsTold t so sn ko kn x → RunsOver words so sn (Compact s) taken →
    IsFileOf s (used_bytes (Compact s) taken) file → Writes ko kn r file
compact_writes one words t s so sn ko kn old new x taken file r said h told over of =
    let P : Settings → Type 0 = λ u. IsFileOf u (take u.max_input taken) file in
    writes_told compact_report ko kn old new r x.0 x.1 file h
    ((told taken over.took).file file (subst P (sym (same_settings one words t s said over.says)) of))

-- these are the counts of the bytes used, where the command compacts
abbrev are_counts : List ℕ → Counts → Command → Type 0
are_counts taken counts (Compact s) = AreCountsOf s (take s.max_input taken) counts
are_counts taken counts (Check max) = ⊤
are_counts taken counts (Inspect max) = ⊤
are_counts taken counts (Drill settings) = ⊤

-- the report says what was counted of the bytes that are used
pub compact_reports : CommandsAreOne → (words : List (List ℕ)) (t s : Settings) (so sn : SourceMeaning) (ko kn old new : SinkMeaning) (x : Ended × Counts)
    (taken : List ℕ) (counts : Counts) (r : Status) → SaysCommand words (Compact t) → TellsCompact old new r x.0 x.1 → CompactsTold t so sn ko kn x →
    RunsOver words so sn (Compact s) taken → AreCountsOf s (used_bytes (Compact s) taken) counts →
    ReportsCompact old new r counts (status_of (ended_by (Compact s) taken sn.ended))
compact_reports one words t s so sn ko kn old new x taken counts r said h told over are =
    let Are : Command → Type 0 = are_counts taken counts in
    read_reports judging_captures t.max_input compact_report one words (Compact t) (Compact s) (compact_judges t) said Are
    (AreCountsOf t (take t.max_input taken) x.1) so sn old new x.0 x.1 counts no_counts taken r
    (λ there here. counts_only t (take t.max_input taken) x.1 there ∙ sym (counts_only t (take t.max_input taken) counts here)) h (told taken over.took).ending
    (told taken over.took).counts over.says are

-- where nothing ended the input nothing is reported
pub compact_unended : CommandsAreOne → (words : List (List ℕ)) (t : Settings) (c : Command) (so sn : SourceMeaning) (ko kn old new : SinkMeaning) (x : Ended × Counts)
    (taken : List ℕ) (r : Status) → SaysCommand words (Compact t) → TellsCompact old new r x.0 x.1 → CompactsTold t so sn ko kn x → RunsOver words so sn c taken →
    IsUnended c so sn taken → (x.0 ≡ ended.ReadFault → Rose so.faults sn.faults) → new ≡ old
compact_unended one words t c so sn ko kn old new x taken r said h told over unended cause =
    read_unended judging_captures t.max_input compact_report one words (Compact t) c (compact_judges t) said so sn old new x.0 x.1 taken r h
    (told taken over.took).ending over.says unended cause

-- some bytes were taken, and reading stops in time
pub compact_takes : CommandsAreOne → (words : List (List ℕ)) (t : Settings) (c : Command) (so sn : SourceMeaning) (ko kn : SinkMeaning) (x : Ended × Counts)
    (bytes : List ℕ) → SaysCommand words (Compact t) → SaysCommand words c → so.left ≡ Some bytes → Compacts t so sn ko kn x →
    (taken : List ℕ) × IsTaken so sn taken × StopsReading c so sn taken
compact_takes one words t c so sn ko kn x bytes said says told took =
    let P : List ℕ → Type 0 = λ taken. CompactsTaken t so sn ko kn x taken in
    read_takes judging_captures t.max_input compact_report one words (Compact t) c (compact_judges t) said so sn P bytes (λ taken h. h.stops) says told took

-- a capture that can be compacted under the settings that the words say
pub served_as_said : CommandsAreOne → (words : List (List ℕ)) (t s : Settings) (bytes : List ℕ) → SaysCommand words (Compact t) → SaysCommand words (Compact s) →
    IsServedCapture s bytes → IsServedCapture t bytes
served_as_said one words t s bytes first second served =
    let P : Settings → Type 0 = λ u. IsServedCapture u bytes in
    subst P (sym (same_settings one words t s first second)) served
