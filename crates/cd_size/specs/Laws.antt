-- Laws of the sizes of blocks.
use Rattle.std.specs.Prelude.{◌≡◌, ℕ, ◌+◌, ◌≤◌, List, length}
use Rattle.std.specs.List.{All, sum_by}
use Rattle.cd_block.specs.declared.kept.KeptBlock.{KeptBlock}
use Rattle.cd_block.specs.declared.params.Params.{Params}
use Rattle.cd_block.specs.Tables.{indexed, tables_of}
use Rattle.cd_block.specs.Traversal.{visited}
use Rattle.cd_block.specs.Naming.{BlockNamed}
use Rattle.cd_file.specs.Files.{block_spelling}
use Rattle.cd_file.specs.ReadFile.{most_item}
use Rattle.cd_file.specs.Readable.{ReadableBlock}
use Rattle.cd_hints.specs.Records.{RecordParts}
use Rattle.cd_ident.specs.declared.event_rules.EventRules.{EventRules}
use Rattle.cd_ident.specs.Events.{event_parts}
use Rattle.cd_packet.specs.Layers.{Datagram, datagram, layer_of}
use Rattle.cd_packet.specs.declared.packet.Packet.{Packet}
use Rattle.cd_message.specs.MessageLaws.{AreBytes}
use Rattle.cd_record.specs.Blocks.{kept_block}
use Rattle.cd_record.specs.Runs.{run_weight}
use Rattle.cd_size.specs.Ranges.{RecordInRange, RecordIsTimed, DatagramInRange, EventInRange, EventIsTimed}
use Rattle.cd_size.specs.Costs.{item_cost, malformed_cost}

-- a kept block takes at most 205 bytes, and the costs of its items and of its malformed messages
abbrev pub KeptBlocksAreShort : Type 0
KeptBlocksAreShort = (b : KeptBlock) → length (block_spelling (indexed b)) ≤
    205 + (sum_by (item_cost (tables_of (visited b))) b.items
    + sum_by (malformed_cost (tables_of (visited b))) b.malformed)

-- the block of a run takes at most the weight of the run and 1,024 bytes, whatever the parameters are
abbrev pub BlocksAreLight : Type 0
BlocksAreLight = (p : Params) (run : List RecordParts) → All RecordInRange run →
    length (block_spelling (indexed (kept_block p run))) ≤ run_weight run + 1024

-- the block of a run of little weight is read back from a file, whatever the parameters are
abbrev pub BlocksAreReadable : Type 0
BlocksAreReadable = (p : Params) (run : List RecordParts) → All RecordInRange run → All RecordIsTimed run →
    run_weight run + 1024 ≤ most_item → ReadableBlock (indexed (kept_block p run))

-- the names of the kept block of a run are names
abbrev pub BlocksAreNamed : Type 0
BlocksAreNamed = (p : Params) (run : List RecordParts) → All RecordInRange run → BlockNamed (kept_block p run)

-- the event of a datagram is in range
abbrev pub EventsAreInRange : Type 0
EventsAreInRange = (rules : EventRules) (d : Datagram) → DatagramInRange d → EventInRange (event_parts rules d)

-- the event of the datagram of a packet has its time, which lies before the end of time, and its size
abbrev pub EventsAreTimed : Type 0
EventsAreTimed = (rules : EventRules) (p : Packet) (d : Datagram) → layer_of rules.port p ≡ datagram d →
    length d.payload ≤ 65535 → EventIsTimed (event_parts rules d)

-- the datagram that a packet of bytes holds is in range
abbrev pub DatagramsAreInRange : Type 0
DatagramsAreInRange = (port : ℕ) (p : Packet) (d : Datagram) → AreBytes p.bytes → layer_of port p ≡ datagram d →
    DatagramInRange d
