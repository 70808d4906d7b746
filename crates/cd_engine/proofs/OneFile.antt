-- Each capture has one file, one closed part and one count of each kind: those of the functions of its bytes.
use Rattle.std.proofs.Common.{◌≡◌, ℕ, List, ◌++◌, length, Option, refl, ap, sym, ◌∙◌, subst, append_assoc}
use Rattle.cd_file.specs.Files.{file_begun, file_of}
use Rattle.cd_hints.specs.Records.{RecordParts}
use Rattle.cd_hints.specs.Validity.{IsValid}
use Rattle.cd_hints.specs.declared.settings.Settings.{Settings}
use Rattle.cd_drive.specs.Behaviors.{IsFront}
use Rattle.cd_ident.specs.Events.{EventParts}
use Rattle.cd_ident.specs.declared.event_rules.EventRules.{EventRules}
use Rattle.cd_pairing.proofs.Unique.{unique}
use Rattle.cd_pairing.specs.Events.{EventView}
use Rattle.cd_pairing.specs.Pairing.{IsPairing, are_compatible}
use Rattle.cd_pairing.specs.Records.{Record, records, released_records}
use Rattle.cd_pairing.specs.declared.keyed.Windows.{Windows}
use Rattle.cd_capture.specs.Formats.{capture}
use Rattle.cd_record.specs.Runs.{limits_of, AreRuns}
use Rattle.cd_engine.proofs.LightRecords.{records_admissible}
use Rattle.cd_engine.proofs.OneCutting.{runs_hold, runs_only, closed_only}
use Rattle.cd_engine.proofs.Weights.{compacted_light}
use Rattle.cd_engine.specs.Behaving.{partners_of, cut_of, runs_of, all_records, settled_records, file_of_events, closed_part_of_events, events_in, whole_file, closed_part, counts_in}
use Rattle.cd_engine.specs.Compactions.{blocks_of, Compaction, IsFileOf, but_last, ReleasedRuns, IsClosedPartOf}
use Rattle.cd_engine.specs.Counting.{packet_counts, record_counts, is_cut, counts_of, AreCountsOf}
use Rattle.cd_engine.specs.Events.{rules_of}
use Rattle.cd_engine.specs.Laws.{EachCaptureHasOneFile, EachCaptureHasOneClosedPart, EachCaptureHasOneCounts}
use Rattle.cd_engine.specs.Lawful.{compacting_lawful}
use Rattle.cd_engine.specs.Records.{windows_of, views_of, records_at}
use Rattle.cd_engine.specs.RecordsGo.{partners_pair}
use Rattle.cd_engine.specs.declared.counts.Counts.{Counts}

-- no other partners are a pairing
pub partners_only : (windows : Windows) (views : List EventView) (p : List (Option ℕ)) → IsPairing windows views p → p ≡ partners_of windows views
partners_only windows views p h = unique (are_compatible windows views) (length views) p (partners_of windows views) h (partners_pair windows views)

-- the file of a capture is the one that its bytes give
pub file_is_whole : (s : Settings) (bytes file : List ℕ) → IsFileOf s bytes file → file ≡ whole_file s bytes
unfolding whole_file file_of_events all_records
file_is_whole s bytes file is =
    let events : List EventParts = events_in s bytes in
    let P : List (Option ℕ) → Type 0 = λ p. AreRuns (limits_of s) (records_at events (records p)) is.compaction.runs in
    let same = partners_only (windows_of s) (views_of events) is.compaction.partners is.compaction.pairing in
    is.same ∙ ap (λ runs. file_of s.params (blocks_of s.params runs))
    (runs_only (limits_of s) (all_records s events) is.compaction.runs (subst P same is.compaction.cut))

-- the front of it that is closed is the one that its bytes give
pub front_is_closed_part : (s : Settings) (bytes front : List ℕ) → IsClosedPartOf s bytes front → front ≡ closed_part s bytes
unfolding closed_part closed_part_of_events settled_records
front_is_closed_part s bytes front is =
    let events : List EventParts = events_in s bytes in
    let P : List (Option ℕ) → Type 0 = λ p.
    AreRuns (limits_of s) (records_at events (released_records (windows_of s) (views_of events) p)) is.released.runs in
    let same = partners_only (windows_of s) (views_of events) is.released.partners is.released.pairing in
    is.same ∙ ap (λ runs. file_begun s.params (blocks_of s.params runs))
    (closed_only (limits_of s) (settled_records s events) is.released.runs (subst P same is.released.cut))

-- the events of a capture, with their partners and runs
compaction_of : (s : Settings) (bytes : List ℕ) → IsValid s → Compaction s (events_in s bytes)
unfolding all_records
compaction_of s bytes valid =
    let events : List EventParts = events_in s bytes in
    let partners : List (Option ℕ) = partners_of (windows_of s) (views_of events) in
    record {
      partners = partners;
      pairing = partners_pair (windows_of s) (views_of events);
      runs = runs_of (limits_of s) (all_records s events);
      cut = runs_hold (limits_of s) (all_records s events) (records_admissible s events (records partners) valid (compacted_light s bytes));
    }

-- the counts of a capture
pub counts_hold : (s : Settings) (bytes : List ℕ) → IsValid s → AreCountsOf s bytes (counts_in s bytes)
unfolding counts_in all_records compaction_of
counts_hold s bytes valid = record { compaction = compaction_of s bytes valid; same = refl }

-- the file of a capture
whole_holds : (s : Settings) (bytes : List ℕ) → IsValid s → IsFileOf s bytes (whole_file s bytes)
unfolding whole_file file_of_events compaction_of
whole_holds s bytes valid = record { compaction = compaction_of s bytes valid; same = refl }

-- other counts are the same
pub counts_only : (s : Settings) (bytes : List ℕ) (counts : Counts) → AreCountsOf s bytes counts → counts ≡ counts_in s bytes
unfolding counts_in all_records
counts_only s bytes counts is =
    let events : List EventParts = events_in s bytes in
    let rules : EventRules = rules_of s in
    let total : List RecordParts → ℕ → Counts = λ rs blocks.
    counts_of (packet_counts rules (capture bytes).packets) (record_counts s.params.rr_types rs) blocks
    (is_cut (capture bytes).end) in
    let P : List (Option ℕ) → Type 0 = λ p. AreRuns (limits_of s) (records_at events (records p)) is.compaction.runs in
    let same = partners_only (windows_of s) (views_of events) is.compaction.partners is.compaction.pairing in
    is.same
    ∙ ap (λ p. total (records_at events (records p)) (length is.compaction.runs)) same
    ∙ ap (λ runs. total (all_records s events) (length runs))
    (runs_only (limits_of s) (all_records s events) is.compaction.runs (subst P same is.compaction.cut))

-- the runs of the records that no later event changes
settled_runs : (s : Settings) (bytes : List ℕ) → IsValid s →
    AreRuns (limits_of s) (settled_records s (events_in s bytes)) (runs_of (limits_of s) (settled_records s (events_in s bytes)))
unfolding settled_records
settled_runs s bytes valid =
    let events : List EventParts = events_in s bytes in
    let partners : List (Option ℕ) = partners_of (windows_of s) (views_of events) in
    let rs : List Record = released_records (windows_of s) (views_of events) partners in
    runs_hold (limits_of s) (settled_records s events) (records_admissible s events rs valid (compacted_light s bytes))

-- these records, cut into runs
released_of : (s : Settings) (bytes : List ℕ) → IsValid s → ReleasedRuns s (events_in s bytes)
unfolding settled_records
released_of s bytes valid = record {
  partners = partners_of (windows_of s) (views_of (events_in s bytes));
  pairing = partners_pair (windows_of s) (views_of (events_in s bytes));
  runs = runs_of (limits_of s) (settled_records s (events_in s bytes));
  cut = settled_runs s bytes valid;
}

-- its runs but the last are those that are closed
closed_settled : (s : Settings) (bytes : List ℕ) → IsValid s →
    but_last (runs_of (limits_of s) (settled_records s (events_in s bytes))) ≡ (cut_of (limits_of s) (settled_records s (events_in s bytes))).closed
closed_settled s bytes valid = closed_only (limits_of s) (settled_records s (events_in s bytes)) _ (settled_runs s bytes valid)

-- the closed part of a capture
closed_holds : (s : Settings) (bytes : List ℕ) → IsValid s → IsClosedPartOf s bytes (closed_part s bytes)
unfolding closed_part closed_part_of_events released_of
closed_holds s bytes valid = record {
  released = released_of s bytes valid;
  same = sym (ap (λ closed. file_begun s.params (blocks_of s.params closed)) (closed_settled s bytes valid));
}

-- it is a front of the file, however the bytes go on
closed_within : (s : Settings) (bytes more file : List ℕ) → IsFileOf s (bytes ++ more) file → IsFront (closed_part s bytes) file
closed_within s bytes more file is =
    let lawful = compacting_lawful s in
    let grown = lawful.grows bytes more in
    let whole = lawful.within (bytes ++ more) in (
      grown.0 ++ whole.0,
      file_is_whole s (bytes ++ more) file is ∙ whole.1 ∙ ap (λ t. t ++ whole.0) grown.1 ∙ append_assoc (closed_part s bytes) grown.0 whole.0,
    )

-- each capture has one closed part
pub each_has_one_closed_part : EachCaptureHasOneClosedPart
each_has_one_closed_part s bytes valid = record {
  front = closed_part s bytes;
  holds = closed_holds s bytes valid;
  only = λ other is. front_is_closed_part s bytes other is;
  within = λ more file is. closed_within s bytes more file is;
}

-- each capture has one set of counts
pub each_has_one_counts : EachCaptureHasOneCounts
each_has_one_counts s bytes valid = record {
  counts = counts_in s bytes;
  holds = counts_hold s bytes valid;
  only = λ other is. counts_only s bytes other is;
}

-- each capture has one file
pub each_has_one_file : EachCaptureHasOneFile
each_has_one_file s bytes valid = record {
  file = whole_file s bytes;
  holds = whole_holds s bytes valid;
  only = λ other is. file_is_whole s bytes other is;
}
