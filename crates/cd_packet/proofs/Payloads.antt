-- The payload of a datagram and UDP's header are among the captured bytes of its packet.
use Rattle.std.proofs.Common.{◌≡◌, ℕ, ◌+◌, ◌-◌, ◌≤◌, length, drop, ap, arith}
use Rattle.std.proofs.lemmas.List.{length-take}
use Rattle.cd_bytes.specs.Numbers.{be16}
use Rattle.cd_packet.proofs.Holding.{IsReadFrom, layer_read}
use Rattle.cd_packet.specs.Layers.{Datagram, datagram, layer_of}
use Rattle.cd_packet.specs.declared.packet.Packet.{Packet}

read_within : (p : Packet) (d : Datagram) → IsReadFrom p d → length d.payload + 8 ≤ length p.bytes
read_within p d r =
    let short = length-take (be16 (r.at + 4) p.bytes - 8) (drop (r.at + 8) p.bytes) in
    omega (arith, r.header, r.captured, short, ap length r.payload)

-- what a packet holds
pub layer_within : (port : ℕ) (p : Packet) (d : Datagram) → layer_of port p ≡ datagram d → length d.payload + 8 ≤ length p.bytes
layer_within port p d is = read_within p d (layer_read port p d is)
