-- What a reader of a capture keeps, and for which histories it stands.
use Rattle.std.specs.Prelude.{◌≡◌, ℕ, ◌-◌, ◌<◌, ◌≤◌, ◌^◌, ⊤, true, false, nat_lt, List, [], length, Option, Some, None}
use Rattle.std.specs.Prelude.{if◌then◌else◌}
use Rattle.std.specs.List.{sum_by}
use Rattle.cd_packet.specs.declared.capture.BadCapture.{BadCapture}
use Rattle.cd_packet.specs.declared.capture.EndState.{EndState}
use Rattle.cd_packet.specs.declared.capture.EndState.TheVariants.{Whole, Cut, Bad}
use Rattle.cd_packet.specs.declared.packet.Packet.{Packet}
use Rattle.cd_pcap.specs.Reading as pcap_reader
use Rattle.cd_pcapng.specs.Blocks.{is_section_header}
use Rattle.cd_pcapng.specs.Laws.{least_block_length}
use Rattle.cd_pcapng.specs.Reading as pcapng_reader
use Rattle.cd_capture.specs.Formats.{capture}
use Rattle.cd_capture.specs.declared.stage.Stage.{Stage}
use Rattle.cd_capture.specs.declared.stage.Stage.TheVariants.{Undecided, Pcap, Pcapng}

-- how many bytes were fed
abbrev pub fed_count_of : Stage → ℕ
fed_count_of (Undecided first) = length first.items
fed_count_of (Pcap r) = r.fed_count
fed_count_of (Pcapng r) = r.fed_count

-- so many of the bytes fed have room for the packets that are given
abbrev pub passed_of : Stage → ℕ
passed_of (Undecided first) = 0
passed_of (Pcap r) = r.at
passed_of (Pcapng r) = r.at - sum_by least_block_length r.ready

-- what a reader keeps
pub record Kept : Type 0 where
  -- the reader of the format, once four bytes tell it
  pub stage : Stage
  -- how many bytes were fed
  pub fed_count : ℕ
  -- so many of them have room for the packets that are given: each takes its captured bytes, and 16 besides
  pub passed : ℕ

-- what a reader keeps at a stage
abbrev pub kept_at : Stage → Kept
kept_at stage = record { stage = stage; fed_count = fed_count_of stage; passed = passed_of stage }

-- the packets that are not given yet have room in the bytes that are read
abbrev pub HasRoom : Stage → Type 0
HasRoom (Undecided first) = ⊤
HasRoom (Pcap r) = ⊤
HasRoom (Pcapng r) = (sum_by least_block_length r.ready ≤ r.at) × (r.at ≤ 2 ^ 48)

-- the stage stands for the bytes fed and the packets given
abbrev pub StageStands : Stage → List ℕ → List Packet → Type 0
StageStands (Undecided first) fed given = (fed ≡ first.items) × (length fed < 4) × (given ≡ [])
StageStands (Pcap r) fed given =
    (4 ≤ length fed) × (is_section_header fed ≡ false) × pcap_reader.StandsFor r fed given
StageStands (Pcapng r) fed given =
    (4 ≤ length fed) × (is_section_header fed ≡ true) × pcapng_reader.StandsFor r fed given

-- The reader stands for the bytes fed and the packets given: it has these bytes where they are fewer than four, and
-- else the reader of their format stands for them.
abbrev pub StandsFor : Kept → List ℕ → List Packet → Type 0
StandsFor r fed given = StageStands r.stage fed given

-- the refused place of an end
abbrev pub refusal_in : EndState → Option BadCapture
refusal_in Whole = None
refusal_in Cut = None
refusal_in (Bad bad) = Some bad

-- the refused place of a capture of these bytes, which fewer than four bytes don't tell yet
unfoldable pub refusal_of : List ℕ → Option BadCapture
refusal_of bytes = if nat_lt (length bytes) 4 then None else refusal_in (capture bytes).end
