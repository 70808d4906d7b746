-- What a compaction makes of the bytes of a capture, as functions of them.
use Rattle.std.specs.Prelude.{ℕ, ◌&&◌, Bool, nat_le, List, [], ◌∷◌, ◌++◌, length, Option, if◌then◌else◌}
use Rattle.std.specs.List.{fold, count_by}
use Rattle.cd_drive.specs.Behaviors.{Behavior}
use Rattle.cd_file.specs.Files.{file_begun, file_of}
use Rattle.cd_hints.specs.Records.{RecordParts, is_item, is_malformed}
use Rattle.cd_hints.specs.declared.settings.Settings.{Settings}
use Rattle.cd_ident.specs.Events.{EventParts}
use Rattle.cd_pairing.proofs.Finding.{exists}
use Rattle.cd_pairing.specs.Events.{EventView}
use Rattle.cd_pairing.specs.Pairing.{are_compatible}
use Rattle.cd_pairing.specs.Records.{records, released_records}
use Rattle.cd_pairing.specs.declared.keyed.Windows.{Windows}
use Rattle.cd_capture.specs.Formats.{capture}
use Rattle.cd_capture.specs.Reading.{refusal_of}
use Rattle.cd_packet.specs.declared.capture.BadCapture.{BadCapture}
use Rattle.cd_record.specs.Cutting.{as_runs}
use Rattle.cd_record.specs.Runs.{Limits, limits_of, run_weight}
use Rattle.cd_engine.specs.Compactions.{blocks_of}
use Rattle.cd_engine.specs.Counting.{counts_of, packet_counts, record_counts, is_cut}
use Rattle.cd_engine.specs.Events.{rules_of}
use Rattle.cd_engine.specs.Records.{windows_of, views_of, records_at}
use Rattle.cd_engine.specs.Refusals.{refusal_at_end, compacted_events}
use Rattle.cd_engine.specs.declared.counts.Counts.{Counts}

-- each position's partner in the one pairing
unfoldable pub partners_of : Windows → List EventView → List (Option ℕ)
partners_of windows views = (exists (are_compatible windows views) (length views)).partners

-- whether the records may stand in one block
unfoldable pub is_admissible : Limits → List RecordParts → Bool
is_admissible limits run =
    nat_le (count_by is_item run) limits.items
    && (nat_le (count_by is_malformed run) limits.items && nat_le (run_weight run) limits.weight)

-- records that were cut: the runs that are closed, and the last one, which may grow
pub record CutRecords : Type 0 where
  pub closed : List (List RecordParts)
  pub present : List RecordParts

-- one record more joins the present run where they may stand in one block, and else closes it
abbrev pub cut_more : Limits → CutRecords → RecordParts → CutRecords
cut_more limits cut r =
    if is_admissible limits (cut.present ++ r ∷ [])
    then record { closed = cut.closed; present = cut.present ++ r ∷ [] }
    else record { closed = cut.closed ++ cut.present ∷ []; present = r ∷ [] }

-- some records, cut from the left
unfoldable pub cut_of : Limits → List RecordParts → CutRecords
cut_of limits rs = fold (cut_more limits) (record { closed = []; present = [] }) rs

-- the runs of some records
abbrev pub runs_of : Limits → List RecordParts → List (List RecordParts)
runs_of limits rs = (cut_of limits rs).closed ++ as_runs (cut_of limits rs).present

-- the records of some events
unfoldable pub all_records : Settings → List EventParts → List RecordParts
all_records s events = records_at events (records (partners_of (windows_of s) (views_of events)))

-- those that no later event changes
unfoldable pub settled_records : Settings → List EventParts → List RecordParts
settled_records s events =
    records_at events
    (released_records (windows_of s) (views_of events) (partners_of (windows_of s) (views_of events)))

-- the file of some events
unfoldable pub file_of_events : Settings → List EventParts → List ℕ
file_of_events s events = file_of s.params (blocks_of s.params (runs_of (limits_of s) (all_records s events)))

-- the front of it that is closed, however more events come
unfoldable pub closed_part_of_events : Settings → List EventParts → List ℕ
closed_part_of_events s events =
    file_begun s.params (blocks_of s.params (cut_of (limits_of s) (settled_records s events)).closed)

-- the events of the bytes
abbrev pub events_in : Settings → List ℕ → List EventParts
events_in s bytes = compacted_events (rules_of s) bytes

-- the file of the bytes
unfoldable pub whole_file : Settings → List ℕ → List ℕ
whole_file s bytes = file_of_events s (events_in s bytes)

-- the front of it that is closed, however the bytes go on
unfoldable pub closed_part : Settings → List ℕ → List ℕ
closed_part s bytes = closed_part_of_events s (events_in s bytes)

-- the counts of the bytes
unfoldable pub counts_in : Settings → List ℕ → Counts
counts_in s bytes = counts_of (packet_counts (rules_of s) (capture bytes).packets)
    (record_counts s.params.rr_types (all_records s (events_in s bytes)))
    (length (runs_of (limits_of s) (all_records s (events_in s bytes))))
    (is_cut (capture bytes).end)

-- what a compaction under these settings makes of bytes
abbrev pub compacting : Settings → Behavior BadCapture Counts
compacting s = record {
  refusal = refusal_of;
  at_end = refusal_at_end;
  ready = closed_part s;
  whole = whole_file s;
  counts = counts_in s;
}
