-- What is known of each capture, of each reader, and of the refused place of a capture.
use Rattle.std.specs.Prelude.{◌≡◌, ℕ, ◌+◌, ◌<◌, ◌≤◌, true, false, List, [], ◌++◌, length, take, Some, None}
use Rattle.std.specs.List.{sum_by}
use Rattle.cd_packet.specs.Capture.{refused_capture, Grows}
use Rattle.cd_packet.specs.declared.capture.BadCapture.{BadCapture}
use Rattle.cd_packet.specs.declared.capture.CaptureWhy.TheVariants.{Magic}
use Rattle.cd_packet.specs.declared.capture.EndState.TheVariants.{Bad}
use Rattle.cd_packet.specs.declared.packet.Packet.{Packet}
use Rattle.cd_pcap.specs.Pcap.{form_of, pcap}
use Rattle.cd_pcap.specs.declared.form.Form.{Form}
use Rattle.cd_pcapng.specs.Blocks.{is_section_header}
use Rattle.cd_pcapng.specs.Pcapng.{pcapng}
use Rattle.cd_capture.specs.Formats.{capture}
use Rattle.cd_capture.specs.Reading.{Kept, StandsFor, refusal_of}

-- The first four bytes tell the format: one of the four magics of pcap, or the section header of pcapng. Fewer bytes
-- and all others are refused at their start.
pub record IsTold (bytes : List ℕ) : Type 0 where
  pub as_pcap : (form : Form) → form_of bytes ≡ Some form → capture bytes ≡ pcap bytes
  pub as_pcapng : is_section_header bytes ≡ true → capture bytes ≡ pcapng bytes
  pub others : form_of bytes ≡ None → is_section_header bytes ≡ false → capture bytes ≡ refused_capture 0 Magic
  pub few : length bytes < 4 → capture bytes ≡ refused_capture 0 Magic

-- the first four bytes of each capture tell its format
abbrev pub FormatsAreTold : Type 0
FormatsAreTold = (bytes : List ℕ) → IsTold bytes

-- What a capture becomes as its bytes go on. Fewer than four bytes hold no packet, whatever they become. From four
-- bytes on the packets stay, and after a refused place nothing comes.
pub record GoesOn (bytes more : List ℕ) : Type 0 where
  pub packets : (rest : List Packet) × ((capture (bytes ++ more)).packets ≡ (capture bytes).packets ++ rest)
  pub few : length bytes < 4 → (capture bytes).packets ≡ []
  pub many : 4 ≤ length bytes → Grows (capture bytes) (capture (bytes ++ more))

-- as its bytes go on, a capture keeps its packets, and from four bytes on its refused place too
abbrev pub CapturesGrow : Type 0
CapturesGrow = (bytes more : List ℕ) → GoesOn bytes more

-- the packets given are the first of those in the bytes fed
abbrev pub GivenAreFirst : Type 0
GivenAreFirst = (r : Kept) (fed : List ℕ) (given : List Packet) → StandsFor r fed given →
    (rest : List Packet) × ((capture fed).packets ≡ given ++ rest)

-- a refused place stays as the bytes go on
abbrev pub RefusalsStay : Type 0
RefusalsStay = (fed more : List ℕ) (bad : BadCapture) → refusal_of fed ≡ Some bad → refusal_of (fed ++ more) ≡ Some bad

-- so many bytes a packet takes at least: its captured ones, and 16 of the record or block that holds it
abbrev pub record_size : Packet → ℕ
record_size p = 16 + length p.bytes

-- all packets of a capture together take no more bytes than it has
abbrev pub PacketsAreWithin : Type 0
PacketsAreWithin = (bytes : List ℕ) → sum_by record_size (capture bytes).packets ≤ length bytes

-- all packets stand before the refused place
abbrev pub PacketsStandBefore : Type 0
PacketsStandBefore = (bytes : List ℕ) (bad : BadCapture) → (capture bytes).end ≡ Bad bad →
    (capture (take bad.at bytes)).packets ≡ (capture bytes).packets
