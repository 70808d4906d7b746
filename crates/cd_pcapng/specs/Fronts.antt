-- What the code finds at the front of some bytes, and in them.
use Rattle.std.specs.Prelude.{◌≡◌, ℕ, true, ◌+◌, ◌-◌, ◌≤◌, List, [], ◌∷◌, ◌++◌, length, take, drop, Result, Ok, Err}
use Rattle.cd_bytes.specs.declared.order.Order.{Order}
use Rattle.cd_packet.specs.declared.capture.CaptureWhy.{CaptureWhy}
use Rattle.cd_packet.specs.declared.packet.Packet.{Packet}
use Rattle.cd_pcapng.specs.Blocks.{Front as front, cut_front, refused_front, other_block, packet_block, front_of}
use Rattle.cd_pcapng.specs.Blocks.{is_section_header}
use Rattle.cd_pcapng.specs.Sections.{Section, section_of}
use Rattle.cd_pcapng.specs.declared.front.Content.{Content}
use Rattle.cd_pcapng.specs.declared.front.Content.TheVariants as content_of
use Rattle.cd_pcapng.specs.declared.front.Front.{Front}
use Rattle.cd_pcapng.specs.declared.front.Front.TheVariants as front_in
use Rattle.cd_pcapng.specs.declared.packet_place.PacketPlace.{PacketPlace}

-- the packet at a place, where these bytes stand at this offset
abbrev pub packet_in : ℕ → List ℕ → PacketPlace → Packet
packet_in base bytes p = record {
  at = p.at;
  when = p.when;
  link = p.link;
  original = p.original;
  bytes = take p.captured (drop (p.captured_at - base) bytes);
  timely = p.timely;
}

-- The captured bytes of these packets stand one after another, between these two offsets.
abbrev pub ArePlaced : ℕ → List PacketPlace → ℕ → Type 0
ArePlaced from [] to = from ≤ to
ArePlaced from (p ∷ ps) to = (from ≤ p.captured_at) × ArePlaced (p.captured_at + p.captured) ps to

-- where the content is a packet, its bytes stand between these two offsets
abbrev pub IsPlaced : ℕ → Content → ℕ → Type 0
IsPlaced from (content_of.Packet p) to = (from ≤ p.captured_at) × (p.captured_at + p.captured ≤ to)
IsPlaced from (content_of.Section order) to = from ≤ to
IsPlaced from (content_of.Interface i) to = from ≤ to
IsPlaced from content_of.Other to = from ≤ to

-- a whole block of this length and content, in this section, at the front of these bytes at this offset
abbrev pub front_with : Section → ℕ → List ℕ → ℕ → Content → front
front_with s at bytes size (content_of.Section order) = other_block (section_of order []) size
front_with s at bytes size (content_of.Interface i) =
    other_block (record s { interfaces = s.interfaces ++ i ∷ [] }) size
front_with s at bytes size (content_of.Packet p) = packet_block (packet_in at bytes p) size
front_with s at bytes size content_of.Other = other_block s size

-- a front that the code found in a whole block, in this section and at this offset
abbrev pub Finds : Section → ℕ → List ℕ → front → Result Content CaptureWhy → Type 0
Finds s at block is (Ok found) =
    (is ≡ front_with s at block (length block) found) × IsPlaced at found (at + length block)
Finds s at block is (Err why) = is ≡ refused_front why

-- A whole block of this length and content stands at the front of these bytes, whatever comes after it.
pub record HasBlock (s : Section) (at : ℕ) (bytes : List ℕ) (size : ℕ) (found : Content) : Type 0 where
  pub least : 12 ≤ size
  pub within : size ≤ length bytes
  pub placed : IsPlaced at found (at + size)
  pub section : is_section_header bytes ≡ true → (order : Order) × (found ≡ content_of.Section order)
  pub reads : (more : List ℕ) → front_of s at (take size bytes ++ more) ≡ front_with s at bytes size found

-- the front of these bytes, in this section and at this offset; a refused place stays however the bytes go on
abbrev pub FrontIs : Section → ℕ → List ℕ → Front → Type 0
FrontIs s at bytes front_in.Cut = front_of s at bytes ≡ cut_front
FrontIs s at bytes (front_in.Refused why) =
    (4 ≤ length bytes) × ((more : List ℕ) → front_of s at (bytes ++ more) ≡ refused_front why)
FrontIs s at bytes (front_in.Block size found) = HasBlock s at bytes size found
