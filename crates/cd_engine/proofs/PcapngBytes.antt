-- The captured bytes of the packets of a pcapng capture of bytes are bytes.
use Rattle.std.proofs.Common.{ℕ, zero, suc, ◌+◌, ◌-◌, Bool, true, false, cond, not, ◌||◌, Option, Some, None, List, [], ◌∷◌, ◌++◌, length, take, drop, refl, inl, inr}
use Rattle.std.specs.Prelude.{nat_lt, nat_eq, slice_get}
use Rattle.std.proofs.lemmas.Bool.{cases_Bool}
use Rattle.cd_bytes.specs.Numbers.{number16_at, number32_at}
use Rattle.cd_bytes.specs.declared.order.Order.{Order}
use Rattle.cd_message.specs.MessageLaws.{AreBytes}
use Rattle.cd_packet.specs.Capture.{Capture}
use Rattle.cd_packet.specs.declared.capture.CaptureWhy.{CaptureWhy}
use Rattle.cd_packet.specs.declared.capture.CaptureWhy.TheVariants as why
use Rattle.cd_packet.specs.declared.packet.Packet.{Packet}
use Rattle.cd_pcapng.specs.Blocks.{Front, cut_front, refused_front, other_block, packet_block, is_section_header, head_length, order_of, kind_of, total_length, is_block_length, interface_front, enhanced_front, simple_front, content, whole_front, ordered_front, front_of}
use Rattle.cd_pcapng.specs.Options.{padded}
use Rattle.cd_pcapng.specs.Pcapng.{from_front, blocks, pcapng}
use Rattle.cd_pcapng.specs.Sections.{Section, no_section, section_of, interface_in, captured_in, enhanced_packet, simple_captured, simple_packet}
use Rattle.cd_pcapng.specs.Times.{is_resolution}
use Rattle.cd_pcapng.specs.declared.interface.Interface.{Interface}
use Rattle.cd_pcapng.specs.declared.kind.Kind.{Kind}
use Rattle.cd_pcapng.specs.declared.kind.Kind.TheVariants as kind
use Rattle.cd_pcapng.proofs.Capturing.{pcapng-header, pcapng-magic}
use Rattle.cd_size.proofs.DatagramRanges.{dropped_bytes, taken_bytes}
use Rattle.cd_engine.proofs.PcapBytes.{HasBytes, HaveBytes, bytes_at, no_packets, first_packet}

-- the packet of a front, where it has one, is of bytes
FrontBytes : Front → Type 0
FrontBytes cut_front = Unit {0}
FrontBytes (refused_front why) = Unit {0}
FrontBytes (other_block next size) = Unit {0}
FrontBytes (packet_block p size) = HasBytes p

cut_bytes : FrontBytes cut_front
unfolding FrontBytes
cut_bytes = tt

refused_bytes : (why : CaptureWhy) → FrontBytes (refused_front why)
unfolding FrontBytes
refused_bytes why = tt

other_bytes : (next : Section) (size : ℕ) → FrontBytes (other_block next size)
unfolding FrontBytes
other_bytes next size = tt

packet_bytes : (p : Packet) (size : ℕ) → HasBytes p → FrontBytes (packet_block p size)
unfolding FrontBytes
packet_bytes p size h = h

packet_known : (p : Packet) (size : ℕ) → FrontBytes (packet_block p size) → HasBytes p
unfolding FrontBytes
packet_known p size h = h

-- one of two fronts
chosen : (b : Bool) (x y : Front) → FrontBytes x → FrontBytes y → FrontBytes (cond b x y)
chosen true x y h k = h
chosen false x y h k = k

-- the packets of blocks
enhanced_bytes : (order : Order) (o : Option Interface) (at : ℕ) (block : List ℕ) → AreBytes block →
    FrontBytes (enhanced_front order o at block)
enhanced_bytes order None at block all = refused_bytes why.Interface
enhanced_bytes order (Some i) at block all =
    let large : Bool = nat_lt 262144 (captured_in order block) || nat_lt (length block) (32 + padded (captured_in order block)) in
    let p : Packet = enhanced_packet order i at block in
    chosen large (refused_front why.Record) (packet_block p (length block)) (refused_bytes why.Record)
    (packet_bytes p (length block) (taken_bytes (captured_in order block) (drop 28 block) (dropped_bytes 28 block all)))

simple_bytes : (order : Order) (o : Option Interface) (at : ℕ) (block : List ℕ) → AreBytes block →
    FrontBytes (simple_front order o at block)
simple_bytes order None at block all = refused_bytes why.Interface
simple_bytes order (Some i) at block all =
    let p : Packet = simple_packet order i at block in
    chosen (nat_lt 262144 (simple_captured order block)) (refused_front why.Record) (packet_block p (length block)) (refused_bytes why.Record)
    (packet_bytes p (length block) (taken_bytes (simple_captured order block) (drop 12 block) (dropped_bytes 12 block all)))

interface_bytes : (order : Order) (s : Section) (block : List ℕ) → FrontBytes (interface_front order s block)
interface_bytes order s block =
    let next : Section = record s { interfaces = s.interfaces ++ interface_in order block ∷ [] } in
    let bad : Bool = not (is_resolution (interface_in order block).resolution) in
    chosen (not (nat_lt (length s.interfaces) 65536)) (refused_front why.Interface)
    (cond bad (refused_front why.Resolution) (other_block next (length block))) (refused_bytes why.Interface)
    (chosen bad (refused_front why.Resolution) (other_block next (length block)) (refused_bytes why.Resolution)
    (other_bytes next (length block)))

content_bytes : (order : Order) (s : Section) (at : ℕ) (k : Kind) (block : List ℕ) → AreBytes block →
    FrontBytes (content order s at k block)
content_bytes order s at kind.SectionHeader block all =
    chosen (nat_eq (number16_at order 12 block) 1) (other_block (section_of order []) (length block)) (refused_front why.Section)
    (other_bytes (section_of order []) (length block)) (refused_bytes why.Section)
content_bytes order s at kind.Interface block all = interface_bytes order s block
content_bytes order s at kind.EnhancedPacket block all =
    enhanced_bytes order (slice_get s.interfaces (number32_at order 8 block)) at block all
content_bytes order s at kind.SimplePacket block all = simple_bytes order (slice_get s.interfaces 0) at block all
content_bytes order s at kind.Other block all = other_bytes s (length block)

-- a whole block
whole_bytes : (order : Order) (s : Section) (at : ℕ) (block : List ℕ) → AreBytes block → FrontBytes (whole_front order s at block)
whole_bytes order s at block all =
    chosen (not (nat_eq (number32_at order (length block - 4) block) (length block))) (refused_front why.TrailerMismatch)
    (content order s at (kind_of order block) block) (refused_bytes why.TrailerMismatch)
    (content_bytes order s at (kind_of order block) block all)

-- a front whose order is told, or is not
ordered_bytes : (o : Option Order) (s : Section) (at : ℕ) (bytes : List ℕ) → AreBytes bytes → FrontBytes (ordered_front o s at bytes)
ordered_bytes None s at bytes all = refused_bytes why.Order
ordered_bytes (Some order) s at bytes all =
    let size : ℕ = total_length order bytes in
    let whole : Front = whole_front order s at (take size bytes) in
    chosen (not (is_block_length (kind_of order bytes) size)) (refused_front why.BlockLength)
    (cond (nat_lt (length bytes) size) cut_front whole) (refused_bytes why.BlockLength)
    (chosen (nat_lt (length bytes) size) cut_front whole cut_bytes
    (whole_bytes order s at (take size bytes) (taken_bytes size bytes all)))

front_bytes : (s : Section) (at : ℕ) (bytes : List ℕ) → AreBytes bytes → FrontBytes (front_of s at bytes)
unfolding front_of
front_bytes s at bytes all =
    chosen (nat_lt (length bytes) (head_length bytes)) cut_front (ordered_front (order_of s bytes) s at bytes) cut_bytes
    (ordered_bytes (order_of s bytes) s at bytes all)

-- a front, and what comes after it
from_bytes : (f : Front) (s : Section) (at : ℕ) (rest : Section → ℕ → Capture) → FrontBytes f →
    ((next : Section) (inside : ℕ) → HaveBytes (rest next inside)) → HaveBytes (from_front f s at rest)
from_bytes cut_front s at rest here after = no_packets _ refl
from_bytes (refused_front why) s at rest here after = no_packets _ refl
from_bytes (other_block next size) s at rest here after = after next (size - 1)
from_bytes (packet_block p size) s at rest here after = first_packet p (rest s (size - 1)) (packet_known p size here) (after s (size - 1))

-- blocks
blocks_bytes : (s : Section) (inside at : ℕ) (bytes : List ℕ) → AreBytes bytes → HaveBytes (blocks s inside at bytes)
unfolding blocks
blocks_bytes s zero at [] all = no_packets _ refl
blocks_bytes s (suc inside) at [] all = no_packets _ refl
blocks_bytes s (suc inside) at (b ∷ bytes) all = blocks_bytes s inside (at + 1) bytes (λ i. all (suc i))
blocks_bytes s zero at (b ∷ bytes) all =
    from_bytes (front_of s at (b ∷ bytes)) s at (λ next inside. blocks next inside (at + 1) bytes) (front_bytes s at (b ∷ bytes) all)
    (λ next inside. blocks_bytes next inside (at + 1) bytes (λ i. all (suc i)))

-- a capture
pub pcapng_bytes : (bytes : List ℕ) → AreBytes bytes → HaveBytes (pcapng bytes)
pcapng_bytes bytes all =
    elim (cases_Bool (is_section_header bytes)) [
      | inl header ↦ bytes_at _ _ (pcapng-header bytes header) (blocks_bytes no_section 0 0 bytes all)
      | inr other ↦ bytes_at _ _ (pcapng-magic bytes other) (no_packets _ refl)
    ]
