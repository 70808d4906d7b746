-- What is known of each capture, of each reader, and of the refused place of a capture.
use Rattle.std.specs.Prelude.{◌≡◌, ℕ, ◌+◌, ◌<◌, ◌≤◌, List, [], ◌∷◌, ◌++◌, length, take, Some}
use Rattle.std.specs.List.{sum_by}
use Rattle.cd_packet.specs.declared.capture.BadCapture.{BadCapture}
use Rattle.cd_packet.specs.declared.capture.EndState.TheVariants.{Bad}
use Rattle.cd_packet.specs.declared.packet.Packet.{Packet}
use Rattle.cd_packet.specs.Capture.{Grows}
use Rattle.cd_pcapng.specs.Pcapng.{pcapng}
use Rattle.cd_pcapng.specs.Reading.{Kept, StandsFor, refusal_of}

-- What a capture becomes as its bytes go on. Fewer than four bytes hold no packet, whatever they become. From four
-- bytes on the packets stay, and after a refused place nothing comes.
pub record GoesOn (bytes more : List ℕ) : Type 0 where
  pub packets : (rest : List Packet) × ((pcapng (bytes ++ more)).packets ≡ (pcapng bytes).packets ++ rest)
  pub few : length bytes < 4 → (pcapng bytes).packets ≡ []
  pub many : 4 ≤ length bytes → Grows (pcapng bytes) (pcapng (bytes ++ more))

-- as its bytes go on, a capture keeps its packets, and from four bytes on its refused place too
abbrev pub CapturesGrow : Type 0
CapturesGrow = (bytes more : List ℕ) → GoesOn bytes more

-- the packets given are the first of those in the bytes fed
abbrev pub GivenAreFirst : Type 0
GivenAreFirst = (r : Kept) (fed : List ℕ) (given : List Packet) → StandsFor r fed given →
    (rest : List Packet) × ((pcapng fed).packets ≡ given ++ rest)

-- a refused place stays as the bytes go on
abbrev pub RefusalsStay : Type 0
RefusalsStay = (fed more : List ℕ) (bad : BadCapture) → refusal_of fed ≡ Some bad → refusal_of (fed ++ more) ≡ Some bad

-- A block with a packet takes at least so many bytes, besides the captured ones: 16 (the pcapng draft, 4.3 and 4.4).
abbrev pub least_block_length : Packet → ℕ
least_block_length p = 16 + length p.bytes

-- the blocks of all packets of a capture together take no more bytes than it has
abbrev pub PacketsAreWithin : Type 0
PacketsAreWithin = (bytes : List ℕ) → sum_by least_block_length (pcapng bytes).packets ≤ length bytes

-- all packets stand before the refused place
abbrev pub PacketsStandBefore : Type 0
PacketsStandBefore = (bytes : List ℕ) (bad : BadCapture) → (pcapng bytes).end ≡ Bad bad →
    (pcapng (take bad.at bytes)).packets ≡ (pcapng bytes).packets

-- the bytes before a packet's offset hold the packets before it
abbrev pub PacketsStandInOrder : Type 0
PacketsStandInOrder = (bytes : List ℕ) (before rest : List Packet) (p : Packet) →
    (pcapng bytes).packets ≡ before ++ p ∷ rest → (pcapng (take p.at bytes)).packets ≡ before
