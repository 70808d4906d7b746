-- Sections, their interfaces and the packets on these (the pcapng draft, 4.1 to 4.4).
use Rattle.std.specs.Prelude.{ℕ, ◌+◌, ◌-◌, ◌*◌, List, [], length, take, drop, min}
use Rattle.cd_bytes.specs.Numbers.{number16_at, number32_at}
use Rattle.cd_bytes.specs.declared.order.Order.{Order}
use Rattle.cd_bytes.specs.declared.order.Order.TheVariants.{Little}
use Rattle.cd_packet.specs.declared.packet.Packet.{Packet}
use Rattle.cd_packet.specs.declared.packet.When.{When}
use Rattle.cd_packet.specs.declared.packet.When.TheVariants.{Missing}
use Rattle.cd_pcapng.specs.Options.{resolution_of, offset_of}
use Rattle.cd_pcapng.specs.Times.{units_in_second, nanos_of, moved_by, moved_by-timely, missing-timely}
use Rattle.cd_pcapng.specs.declared.interface.Interface.{Interface}

-- a section: the order of its numbers, and the interfaces that are declared in it so far
pub record Section : Type 0 where
  pub order : Order
  pub interfaces : List Interface

-- a section of this order with these interfaces
abbrev pub section_of : Order → List Interface → Section
section_of order interfaces = record { order = order; interfaces = interfaces }

-- no section yet, and so no interface; a section header does not ask for the order before it
abbrev pub no_section : Section
no_section = section_of Little []

-- the options of an interface block, which stand after its first 16 bytes and before its last 4
abbrev pub interface_options : List ℕ → List ℕ
interface_options block = take (length block - 20) (drop 16 block)

-- the interface that a block declares
abbrev pub interface_in : Order → List ℕ → Interface
interface_in order block = record {
  link = number16_at order 8 block;
  resolution = resolution_of order (interface_options block);
  offset = offset_of order (interface_options block);
}

-- the time of so many units of an interface's clock
abbrev pub time_on : Interface → ℕ → When
time_on i ticks = moved_by i.offset (nanos_of (units_in_second i.resolution) ticks)

-- the time of an enhanced packet, in units: its upper and its lower half
abbrev pub ticks_in : Order → List ℕ → ℕ
ticks_in order block = 0x1_0000_0000 * number32_at order 12 block + number32_at order 16 block

-- the captured length of an enhanced packet
abbrev pub captured_in : Order → List ℕ → ℕ
captured_in order block = number32_at order 20 block

-- the packet of an enhanced packet block at this offset, on this interface
abbrev pub enhanced_packet : Order → Interface → ℕ → List ℕ → Packet
enhanced_packet order i at block = record {
  at = at;
  when = time_on i (ticks_in order block);
  link = i.link;
  original = number32_at order 24 block;
  bytes = take (captured_in order block) (drop 28 block);
  timely = moved_by-timely i.offset (nanos_of (units_in_second i.resolution) (ticks_in order block));
}

-- The captured length of a simple packet: its original length, or as many bytes as stand there, with the padding, where
-- they are fewer.
abbrev pub simple_captured : Order → List ℕ → ℕ
simple_captured order block = min (number32_at order 8 block) (length block - 16)

-- the packet of a simple packet block at this offset, on this interface: it tells no time
abbrev pub simple_packet : Order → Interface → ℕ → List ℕ → Packet
simple_packet order i at block = record {
  at = at;
  when = Missing;
  link = i.link;
  original = number32_at order 8 block;
  bytes = take (simple_captured order block) (drop 12 block);
  timely = missing-timely;
}
