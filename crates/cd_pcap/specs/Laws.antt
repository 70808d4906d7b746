-- What is known of each capture, of each reader, and of the refused place of a capture.
use Rattle.std.specs.Prelude.{◌≡◌, ℕ, ◌+◌, ◌<◌, ◌≤◌, List, [], ◌∷◌, ◌++◌, length, take, Some, All}
use Rattle.std.specs.List.{sum_by}
use Rattle.cd_packet.specs.declared.capture.BadCapture.{BadCapture}
use Rattle.cd_packet.specs.declared.capture.EndState.TheVariants.{Bad}
use Rattle.cd_packet.specs.declared.packet.Packet.{Packet}
use Rattle.cd_packet.specs.Capture.{Capture, after, Grows}
use Rattle.cd_pcap.specs.Pcap.{Form, pcap, records}
use Rattle.cd_pcap.specs.Spelled.{RawRecord, Fits, Spells, spelling_of, packet_of_raw}
use Rattle.cd_pcap.specs.Reading.{Kept, StandsFor, refusal_of}

-- What is read of some bytes is what they spell.
abbrev pub ReadIsSpelled : Type 0
ReadIsSpelled = (bytes : List ℕ) → All (λ byte. byte < 256) bytes → Spells bytes (pcap bytes)

-- What some bytes spell is what is read of them, so they spell one capture.
abbrev pub SpelledIsRead : Type 0
SpelledIsRead = (bytes : List ℕ) (c : Capture) → All (λ byte. byte < 256) bytes → Spells bytes c → pcap bytes ≡ c

-- Any record that fits, spelled in any form, and then any bytes, is read as the packet that it means, and then what
-- those bytes hold.
abbrev pub RecordsAreRead : Type 0
RecordsAreRead = (form : Form) (link at : ℕ) (r : RawRecord) (rest : List ℕ) → Fits r →
    records form link 0 at (spelling_of form r ++ rest)
    ≡ after (packet_of_raw form link at r ∷ []) (records form link 0 (at + (16 + length r.captured)) rest)

-- What a capture becomes as its bytes go on. Fewer than four bytes hold no packet, whatever they become. From four
-- bytes on the packets stay, and after a refused place nothing comes.
pub record GoesOn (bytes more : List ℕ) : Type 0 where
  pub packets : (rest : List Packet) × ((pcap (bytes ++ more)).packets ≡ (pcap bytes).packets ++ rest)
  pub few : length bytes < 4 → (pcap bytes).packets ≡ []
  pub many : 4 ≤ length bytes → Grows (pcap bytes) (pcap (bytes ++ more))

-- as its bytes go on, a capture keeps its packets, and from four bytes on its refused place too
abbrev pub CapturesGrow : Type 0
CapturesGrow = (bytes more : List ℕ) → GoesOn bytes more

-- the packets given are the first of those in the bytes fed
abbrev pub GivenAreFirst : Type 0
GivenAreFirst = (r : Kept) (fed : List ℕ) (given : List Packet) → StandsFor r fed given →
    (rest : List Packet) × ((pcap fed).packets ≡ given ++ rest)

-- a refused place stays as the bytes go on
abbrev pub RefusalsStay : Type 0
RefusalsStay = (fed more : List ℕ) (bad : BadCapture) → refusal_of fed ≡ Some bad → refusal_of (fed ++ more) ≡ Some bad

-- so many bytes the record of a packet takes: its header of 16 bytes, and the captured ones (the pcap draft, 5)
abbrev pub record_size : Packet → ℕ
record_size p = 16 + length p.bytes

-- the records of all packets of a capture together take no more bytes than it has
abbrev pub PacketsAreWithin : Type 0
PacketsAreWithin = (bytes : List ℕ) → sum_by record_size (pcap bytes).packets ≤ length bytes

-- all packets stand before the refused place
abbrev pub PacketsStandBefore : Type 0
PacketsStandBefore = (bytes : List ℕ) (bad : BadCapture) → (pcap bytes).end ≡ Bad bad →
    (pcap (take bad.at bytes)).packets ≡ (pcap bytes).packets
