-- What a report says: a line for each count, and at last how the run ended.
use Rattle.std.specs.Prelude.{◌≡◌, ℕ, List, [], ◌∷◌, ◌++◌, codes, slice_index}
use Rattle.std.specs.Fmt.{decimal, signed_decimal}
use Rattle.std.specs.Io.KnownBytes.{Appends}
use Rattle.cd_engine.specs.Counting.{reason_index}
use Rattle.cd_engine.specs.Endings.{IfStopped}
use Rattle.cd_engine.specs.Filing.{one_if}
use Rattle.cd_engine.specs.declared.counts.Counts.{Counts}
use Rattle.cd_engine.specs.declared.ended.Ended.{Ended}
use Rattle.cd_file.specs.declared.refusal.FileWhy.{FileWhy}
use Rattle.cd_file.specs.declared.refusal.FileWhy.TheVariants as file
use Rattle.cd_inspection.specs.declared.counting.ReadCounts.{ReadCounts}
use Rattle.cd_packet.specs.declared.capture.CaptureWhy.{CaptureWhy}
use Rattle.cd_packet.specs.declared.capture.CaptureWhy.TheVariants as capture
use Rattle.cd_packet.specs.declared.datagram.Reason.{Reason}
use Rattle.cd_packet.specs.declared.datagram.Reason.TheVariants as reason
use Rattle.cd_ports.specs.Writing.{SinkMeaning, AppendsPrefix}
use Rattle.cd_top.specs.Statuses.{status_of, IsStopped, EndsAs}
use Rattle.cd_top.specs.declared.status.Status.{Status}
use Rattle.cd_top.specs.declared.status.Status.TheVariants as status

-- the line of a count: its name, a space, the number and a line feed
unfoldable pub count_line : List ℕ → ℕ → List ℕ
count_line name count = name ++ codes " " ++ decimal count ++ 10 ∷ []

-- why a capture is refused
abbrev pub capture_why_text : CaptureWhy → List ℕ
capture_why_text capture.Magic = codes "magic"
capture_why_text capture.Version = codes "version"
capture_why_text capture.Record = codes "record"
capture_why_text capture.Section = codes "section"
capture_why_text capture.Order = codes "order"
capture_why_text capture.BlockLength = codes "block-length"
capture_why_text capture.TrailerMismatch = codes "trailer-mismatch"
capture_why_text capture.Interface = codes "interface"
capture_why_text capture.Resolution = codes "resolution"

-- why a file is refused, with the offset, the key or the table that it is refused for, where there is one
abbrev pub file_why_text : FileWhy → List ℕ
file_why_text (file.Cbor at) = codes "cbor " ++ decimal at
file_why_text file.NotCdns = codes "not-cdns"
file_why_text file.Version = codes "version"
file_why_text file.NotMap = codes "not-map"
file_why_text (file.Shape key) = codes "shape " ++ signed_decimal key
file_why_text (file.Repeated key) = codes "repeated " ++ signed_decimal key
file_why_text (file.Missing key) = codes "missing " ++ signed_decimal key
file_why_text (file.Index table) = codes "index " ++ decimal table
file_why_text file.Name = codes "name"
file_why_text file.ParamIndex = codes "param-index"
file_why_text file.TimeRange = codes "time-range"
file_why_text file.TooLarge = codes "too-large"
file_why_text file.Trailing = codes "trailing"

-- how a run ended, with the place and the reason of a refusal
abbrev pub status_text : Status → List ℕ
status_text status.Done = codes "done"
status_text status.Usage = codes "usage"
status_text (status.BadCapture b) = codes "bad-capture " ++ decimal b.at ++ codes " " ++ capture_why_text b.why
status_text (status.BadFile b) = codes "bad-file " ++ decimal b.block ++ codes " " ++ file_why_text b.why
status_text status.ReadFault = codes "read-fault"
status_text status.WriteFault = codes "write-fault"
status_text status.NoMemory = codes "no-memory"
status_text status.TooLong = codes "too-long"

-- the last line of a report: how the run ended
abbrev pub status_line : Status → List ℕ
status_line s = codes "status " ++ status_text s ++ 10 ∷ []

-- the report of `check`
abbrev pub check_report : ReadCounts → Status → List ℕ
check_report counts s =
    count_line (codes "blocks") counts.blocks ++ count_line (codes "items") counts.items
    ++ count_line (codes "malformed") counts.malformed ++ status_line s

-- the report of `inspect`
abbrev pub inspect_report : ReadCounts → Status → List ℕ
inspect_report counts s =
    count_line (codes "blocks") counts.blocks ++ count_line (codes "items") counts.items
    ++ count_line (codes "malformed") counts.malformed ++ count_line (codes "packets") counts.packets
    ++ count_line (codes "bare") counts.bare ++ count_line (codes "not-udp") counts.not_udp
    ++ count_line (codes "too-long") counts.too_long ++ status_line s

-- the lines of all packets of a capture, and of those with an event
unfoldable pub packet_lines : Counts → List ℕ
packet_lines counts =
    count_line (codes "packets") counts.packets ++ count_line (codes "queries") counts.queries
    ++ count_line (codes "responses") counts.responses ++ count_line (codes "malformed") counts.malformed
    ++ count_line (codes "discarded") counts.discarded

-- how many packets are skipped for this reason
abbrev pub skipped_for : Counts → Reason → ℕ
skipped_for counts why = slice_index counts.skipped (reason_index why)

-- the lines of the packets that are skipped since their layers hold no datagram of UDP
unfoldable pub layer_skip_lines : Counts → List ℕ
layer_skip_lines counts =
    count_line (codes "skipped-link") (skipped_for counts reason.Link)
    ++ count_line (codes "skipped-length") (skipped_for counts reason.Length)
    ++ count_line (codes "skipped-not-ip") (skipped_for counts reason.NotIp)
    ++ count_line (codes "skipped-fragment") (skipped_for counts reason.Fragment)
    ++ count_line (codes "skipped-not-udp") (skipped_for counts reason.NotUdp)

-- the lines of the packets that are skipped for their port, for bytes that were not captured, or for their time
unfoldable pub other_skip_lines : Counts → List ℕ
other_skip_lines counts =
    count_line (codes "skipped-port") (skipped_for counts reason.Port)
    ++ count_line (codes "skipped-cut") (skipped_for counts reason.Cut)
    ++ count_line (codes "skipped-time") (skipped_for counts reason.Time)
    ++ count_line (codes "skipped-no-time") (skipped_for counts reason.NoTime)

-- the lines of what the file holds, and whether the capture is cut off
unfoldable pub file_lines : Counts → List ℕ
file_lines counts =
    count_line (codes "dropped-records") counts.dropped ++ count_line (codes "blocks") counts.blocks
    ++ count_line (codes "items") counts.items ++ count_line (codes "pairs") counts.pairs
    ++ count_line (codes "cut") (one_if counts.cut)

-- the report of `compact`
abbrev pub compact_report : Counts → Status → List ℕ
compact_report counts s =
    packet_lines counts ++ layer_skip_lines counts ++ other_skip_lines counts ++ file_lines counts ++ status_line s

-- The run ends so and this is its report; or a write failed or memory ran out, and a prefix of it is written.
pub record TellsReport (old new : SinkMeaning) (result s : Status) (text : List ℕ) : Type 0 where
  pub ends : EndsAs result s
  pub whole : ¬ (IsStopped result) → Appends old.contents new.contents text
  pub front : IsStopped result → AppendsPrefix old.contents new.contents text

-- the run ends so, and the report of `check` says these counts and that
abbrev pub ReportsCheck : SinkMeaning → SinkMeaning → Status → ReadCounts → Status → Type 0
ReportsCheck old new result counts s = TellsReport old new result s (check_report counts s)

-- the run ends so, and the report of `compact` says these counts and that
abbrev pub ReportsCompact : SinkMeaning → SinkMeaning → Status → Counts → Status → Type 0
ReportsCompact old new result counts s = TellsReport old new result s (compact_report counts s)

-- the run ends so, and the report of `inspect` says these counts and that
abbrev pub ReportsInspect : SinkMeaning → SinkMeaning → Status → ReadCounts → Status → Type 0
ReportsInspect old new result counts s = TellsReport old new result s (inspect_report counts s)

-- the run ends so, and the report of `drill` says that alone
abbrev pub ReportsDrill : SinkMeaning → SinkMeaning → Status → Type 0
ReportsDrill old new result = TellsReport old new result status.Done (status_line status.Done)

-- where a command was stopped the run ends so, and nothing is reported; else its counts and its end are, in this form
abbrev pub TellsEnd : {C : Type 0} → (C → Status → List ℕ) → SinkMeaning → SinkMeaning → Status → Ended → C → Type 0
TellsEnd form old new result e counts =
    IfStopped e ((result ≡ status_of e) × (new ≡ old))
    (TellsReport old new result (status_of e) (form counts (status_of e)))

-- so it is of a check
abbrev pub TellsCheck : SinkMeaning → SinkMeaning → Status → Ended → ReadCounts → Type 0
TellsCheck old new result e counts = TellsEnd check_report old new result e counts

-- and of a compaction
abbrev pub TellsCompact : SinkMeaning → SinkMeaning → Status → Ended → Counts → Type 0
TellsCompact old new result e counts = TellsEnd compact_report old new result e counts

-- and of an inspection
abbrev pub TellsInspect : SinkMeaning → SinkMeaning → Status → Ended → ReadCounts → Type 0
TellsInspect old new result e counts = TellsEnd inspect_report old new result e counts
