-- What was found in the whole blocks of a capture, and how it grows.
use Rattle.std.specs.Prelude.{◌≡◌, ℕ, ◌+◌, ◌≤◌, List, [], ◌∷◌, ◌++◌, length, take, drop, map, Option, Some, None}
use Rattle.std.specs.Prelude.{option_map}
use Rattle.cd_bytes.specs.declared.order.Order.{Order}
use Rattle.cd_packet.specs.Capture.{after}
use Rattle.cd_packet.specs.declared.capture.CaptureWhy.{CaptureWhy}
use Rattle.cd_pcapng.specs.Fronts.{packet_in, ArePlaced, IsPlaced}
use Rattle.cd_pcapng.specs.Reading.{reading_on, AreOpen, AreRefused}
use Rattle.cd_pcapng.specs.Sections.{Section, section_of}
use Rattle.cd_pcapng.specs.declared.front.Content.{Content}
use Rattle.cd_pcapng.specs.declared.front.Content.TheVariants as content_of
use Rattle.cd_pcapng.specs.declared.front.Front.{Front}
use Rattle.cd_pcapng.specs.declared.front.Front.TheVariants as front_in
use Rattle.cd_pcapng.specs.declared.front.WholeBlocks.{WholeBlocks}
use Rattle.cd_pcapng.specs.declared.interface.Interface.{Interface}
use Rattle.cd_pcapng.specs.declared.packet_place.PacketPlace.{PacketPlace}

-- what was found: the packets that are not given, and the interfaces, of which those from the first on are of the
-- section
pub record FoundSeen : Type 0 where
  pub ready : List PacketPlace
  pub interfaces : List Interface
  pub first : ℕ
  pub order : Option Order

-- the section in which the next block stands, once one began
abbrev pub section_in : FoundSeen → Option Section
section_in f = option_map (λ order. section_of order (drop f.first f.interfaces)) f.order

-- what a whole block adds
abbrev pub added : FoundSeen → Content → FoundSeen
added f (content_of.Section order) = record f { first = length f.interfaces; order = Some order }
added f (content_of.Interface i) = record f { interfaces = f.interfaces ++ i ∷ [] }
added f (content_of.Packet p) = record f { ready = f.ready ++ p ∷ [] }
added f content_of.Other = f

-- the place of the packet of a block, where it has one
abbrev pub place_in : Content → List PacketPlace
place_in (content_of.Packet p) = p ∷ []
place_in (content_of.Section order) = []
place_in (content_of.Interface i) = []
place_in content_of.Other = []

-- A whole block of this length and content stands at the front of these bytes, whatever comes after it.
pub record BeginsBlock (f : FoundSeen) (at : ℕ) (bytes : List ℕ) (size : ℕ) (found : Content) : Type 0 where
  pub least : 12 ≤ size
  pub within : size ≤ length bytes
  pub placed : IsPlaced at found (at + size)
  pub first : f.order ≡ None → (order : Order) × (found ≡ content_of.Section order)
  pub reads : (more : List ℕ) → reading_on (section_in f) at (take size bytes ++ more)
      ≡ after (map (packet_in at bytes) (place_in found)) (reading_on (section_in (added f found)) (at + size) more)

-- what stands at the front of these bytes after what was found
abbrev pub BeginsWith : FoundSeen → ℕ → List ℕ → Front → Type 0
BeginsWith f at bytes front_in.Cut = AreOpen (section_in f) at bytes
BeginsWith f at bytes (front_in.Refused why) = AreRefused (section_in f) at (record { at = at; why = why }) bytes
BeginsWith f at bytes (front_in.Block size found) = BeginsBlock f at bytes size found

-- So many of these bytes at this offset are whole blocks, in which this was found besides what was found before.
pub record Passes (old new : FoundSeen) (at : ℕ) (bytes : List ℕ) (size : ℕ) : Type 0 where
  pub places : List PacketPlace
  pub ready : new.ready ≡ old.ready ++ places
  pub within : size ≤ length bytes
  pub placed : ArePlaced at places (at + size)
  pub reads : (more : List ℕ) → reading_on (section_in old) at (take size bytes ++ more)
      ≡ after (map (packet_in at bytes) places) (reading_on (section_in new) (at + size) more)

-- after the whole blocks come open bytes, or a refused place
abbrev pub IsStopped : Option CaptureWhy → Option Section → ℕ → List ℕ → Type 0
IsStopped None section at bytes = AreOpen section at bytes
IsStopped (Some why) section at bytes = AreRefused section at (record { at = at; why = why }) bytes

-- What was found in all whole blocks of these bytes, which stand at this offset.
pub record FindsAll (old new : FoundSeen) (at : ℕ) (bytes : List ℕ) (b : WholeBlocks) : Type 0 where
  pub passes : Passes old new at bytes b.size
  pub started : new.order ≡ None → at + b.size ≡ 0
  pub stopped : IsStopped b.refused (section_in new) (at + b.size) (drop b.size bytes)

-- what was found before is still there, before what else was found
pub record Keeps (old new : FoundSeen) : Type 0 where
  pub ready : take (length old.ready) new.ready ≡ old.ready
  pub interfaces : take (length old.interfaces) new.interfaces ≡ old.interfaces
