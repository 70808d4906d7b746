-- What the payload of a datagram takes of its packet.
use Rattle.std.specs.Prelude.{◌≡◌, ℕ, ◌+◌, ◌≤◌, length}
use Rattle.cd_packet.specs.Layers.{Datagram, datagram, layer_of}
use Rattle.cd_packet.specs.declared.packet.Packet.{Packet}

-- where a packet holds a datagram, the payload and the eight bytes of UDP's header were captured (RFC 768)
abbrev pub PayloadsAreCaptured : Type 0
PayloadsAreCaptured = (port : ℕ) (p : Packet) (d : Datagram) → layer_of port p ≡ datagram d →
    length d.payload + 8 ≤ length p.bytes
