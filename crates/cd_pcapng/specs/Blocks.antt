-- What the block at the front of some bytes holds, or why it is refused (the pcapng draft, 3.1 and 4). The first rule
-- that applies decides, as soon as its bytes are there.
use Rattle.std.specs.Prelude.{ℕ, ◌+◌, ◌-◌, ◌%◌, Bool, not, ◌&&◌, ◌||◌, nat_lt, nat_eq, List, [], ◌∷◌, ◌++◌, length}
use Rattle.std.specs.Prelude.{take, slice_get, if◌then◌else◌, Option, Some, None}
use Rattle.cd_bytes.specs.Numbers.{be32, le32, number16_at, number32_at}
use Rattle.cd_bytes.specs.declared.order.Order.{Order}
use Rattle.cd_bytes.specs.declared.order.Order.TheVariants.{Big, Little}
use Rattle.cd_packet.specs.Magic.{has_magic}
use Rattle.cd_packet.specs.declared.capture.CaptureWhy.{CaptureWhy}
use Rattle.cd_packet.specs.declared.capture.CaptureWhy.TheVariants as why
use Rattle.cd_packet.specs.declared.packet.Packet.{Packet}
use Rattle.cd_pcapng.specs.Options.{padded}
use Rattle.cd_pcapng.specs.Times.{is_resolution}
use Rattle.cd_pcapng.specs.Sections.{Section, section_of, interface_in, captured_in, enhanced_packet, simple_captured}
use Rattle.cd_pcapng.specs.Sections.{simple_packet}
use Rattle.cd_pcapng.specs.declared.interface.Interface.{Interface}
use Rattle.cd_pcapng.specs.declared.kind.Kind.{Kind}
use Rattle.cd_pcapng.specs.declared.kind.Kind.TheVariants as kind

-- what stands at the front of some bytes
pub data Front : Type 0 where
  -- neither a whole block nor a refused place
  cut_front : Front
  -- a refused place
  refused_front : CaptureWhy → Front
  -- a whole block with no packet: the section after it, and its length
  other_block : Section → ℕ → Front
  -- a whole block with a packet, after which the section is as before: the packet, and the length of the block
  packet_block : Packet → ℕ → Front

-- These bytes begin with the type of a section header, which reads the same in both orders.
abbrev pub is_section_header : List ℕ → Bool
is_section_header bytes = has_magic 0x0a0d0d0a bytes

-- so many bytes tell the order and the length of a block
abbrev pub head_length : List ℕ → ℕ
head_length bytes = if is_section_header bytes then 12 else 8

-- the order that the byte-order word of a section header tells
abbrev pub told_order : List ℕ → Option Order
told_order bytes =
    if nat_eq (le32 8 bytes) 0x1a2b3c4d then Some Little
    else (if nat_eq (be32 8 bytes) 0x1a2b3c4d then Some Big else None)

-- the order of a block's numbers: a section header tells it, and the other blocks have that of their section
abbrev pub order_of : Section → List ℕ → Option Order
order_of s bytes = if is_section_header bytes then told_order bytes else Some s.order

-- the type of a block
abbrev pub block_type : Order → List ℕ → ℕ
block_type order bytes = number32_at order 0 bytes

-- the length of a block, with all that belongs to it
abbrev pub total_length : Order → List ℕ → ℕ
total_length order bytes = number32_at order 4 bytes

-- the kind of a block of this type, which is no section header
abbrev pub numbered_kind : ℕ → Kind
numbered_kind type =
    if nat_eq type 1 then kind.Interface
    else (if nat_eq type 6 then kind.EnhancedPacket else (if nat_eq type 3 then kind.SimplePacket else kind.Other))

-- the kind of a block
abbrev pub kind_of : Order → List ℕ → Kind
kind_of order bytes = if is_section_header bytes then kind.SectionHeader else numbered_kind (block_type order bytes)

-- the least length that a block of this kind has
abbrev pub least_length : Kind → ℕ
least_length kind.SectionHeader = 28
least_length kind.Interface = 20
least_length kind.EnhancedPacket = 32
least_length kind.SimplePacket = 16
least_length kind.Other = 12

-- a block of this kind may have this length
abbrev pub is_block_length : Kind → ℕ → Bool
is_block_length k n = not (nat_lt n (least_length k)) && (not (nat_lt 16777216 n) && nat_eq (n % 4) 0)

-- a section header: no interface is declared after it
abbrev pub section_front : Order → List ℕ → Front
section_front order block =
    if nat_eq (number16_at order 12 block) 1 then other_block (section_of order []) (length block)
    else refused_front why.Section

-- an interface, of which a section has at most 65,536
abbrev pub interface_front : Order → Section → List ℕ → Front
interface_front order s block =
    if not (nat_lt (length s.interfaces) 65536) then refused_front why.Interface
    else (if not (is_resolution (interface_in order block).resolution) then refused_front why.Resolution
    else other_block (record s { interfaces = s.interfaces ++ interface_in order block ∷ [] }) (length block))

-- an enhanced packet, on the interface that it names
abbrev pub enhanced_front : Order → Option Interface → ℕ → List ℕ → Front
enhanced_front order None at block = refused_front why.Interface
enhanced_front order (Some i) at block =
    if nat_lt 262144 (captured_in order block) || nat_lt (length block) (32 + padded (captured_in order block))
    then refused_front why.Record
    else packet_block (enhanced_packet order i at block) (length block)

-- a simple packet, on the first interface of its section
abbrev pub simple_front : Order → Option Interface → ℕ → List ℕ → Front
simple_front order None at block = refused_front why.Interface
simple_front order (Some i) at block =
    if nat_lt 262144 (simple_captured order block) then refused_front why.Record
    else packet_block (simple_packet order i at block) (length block)

-- what a whole block of this kind holds, where its two lengths agree
abbrev pub content : Order → Section → ℕ → Kind → List ℕ → Front
content order s at kind.SectionHeader block = section_front order block
content order s at kind.Interface block = interface_front order s block
content order s at kind.EnhancedPacket block =
    enhanced_front order (slice_get s.interfaces (number32_at order 8 block)) at block
content order s at kind.SimplePacket block = simple_front order (slice_get s.interfaces 0) at block
content order s at kind.Other block = other_block s (length block)

-- what a whole block holds, whose length stands at its end again
abbrev pub whole_front : Order → Section → ℕ → List ℕ → Front
whole_front order s at block =
    if not (nat_eq (number32_at order (length block - 4) block) (length block)) then refused_front why.TrailerMismatch
    else content order s at (kind_of order block) block

-- what stands at the front of these bytes, where the order is told
abbrev pub ordered_front : Option Order → Section → ℕ → List ℕ → Front
ordered_front None s at bytes = refused_front why.Order
ordered_front (Some order) s at bytes =
    if not (is_block_length (kind_of order bytes) (total_length order bytes)) then refused_front why.BlockLength
    else (if nat_lt (length bytes) (total_length order bytes) then cut_front
    else whole_front order s at (take (total_length order bytes) bytes))

-- what stands at the front of these bytes, which stand at this offset
unfoldable pub front_of : Section → ℕ → List ℕ → Front
front_of s at bytes =
    if nat_lt (length bytes) (head_length bytes) then cut_front else ordered_front (order_of s bytes) s at bytes
