-- What the layers of a packet hold: a link header, IPv4 or IPv6, and UDP (RFC 768). The first rule that applies
-- decides.
use Rattle.std.specs.Prelude.{◌≡◌, ℕ, ◌+◌, ◌-◌, ◌≤◌, nat_lt, nat_eq, ◌&&◌, not, List, length, take, drop, Result, Ok}
use Rattle.std.specs.Prelude.{Err, ⊤}
use Rattle.cd_bytes.specs.Numbers.{be16}
use Rattle.cd_packet.specs.Links.{ip_packet_of}
use Rattle.cd_packet.specs.Readings.{◌>>=◌, skip_if, needs}
use Rattle.cd_packet.specs.declared.address.Addr.{Addr}
use Rattle.cd_packet.specs.declared.datagram.Dgram.{Dgram}
use Rattle.cd_packet.specs.declared.datagram.Layer.{Layer}
use Rattle.cd_packet.specs.declared.datagram.Layer.TheVariants as layer
use Rattle.cd_packet.specs.declared.datagram.Reason.{Reason}
use Rattle.cd_packet.specs.declared.datagram.Reason.TheVariants.{Length, NotUdp, Port, Time, NoTime}
use Rattle.cd_packet.specs.declared.ip_packet.IpPacket.{IpPacket}
use Rattle.cd_packet.specs.declared.packet.Packet.{Packet}
use Rattle.cd_packet.specs.declared.packet.When.{When}
use Rattle.cd_packet.specs.declared.packet.When.TheVariants.{At, Outside, Missing}

-- a datagram without where its payload lies in memory
pub record Datagram : Type 0 where
  pub time : ℕ
  pub src : Addr
  pub dst : Addr
  pub sport : ℕ
  pub dport : ℕ
  pub hop : ℕ
  pub payload : List ℕ

-- a datagram, or the reason why there is none
pub data Found : Type 0 where
  datagram : Datagram → Found
  skipped : Reason → Found

-- a datagram as a clause sees it
abbrev pub datagram_seen : Dgram → Datagram
datagram_seen d = record {
  time = d.time;
  src = d.src;
  dst = d.dst;
  sport = d.sport;
  dport = d.dport;
  hop = d.hop;
  payload = d.payload.now;
}

-- what was read, as a clause sees it
abbrev pub reading_seen : Result Dgram Reason → Result Datagram Reason
reading_seen (Ok d) = Ok (datagram_seen d)
reading_seen (Err why) = Err why

-- a layer as a clause sees it
abbrev pub found_in : Layer → Found
found_in (layer.Dgram d) = datagram (datagram_seen d)
found_in (layer.Skip r) = skipped r

-- the addresses of a datagram have one version of IP
abbrev pub HasOneVersion : Layer → Type 0
HasOneVersion (layer.Dgram d) = d.src.v6 ≡ d.dst.v6
HasOneVersion (layer.Skip r) = ⊤

-- the payload of a datagram has at most 65,535 bytes, since its length has 16 bits (RFC 768)
abbrev pub HasShortPayload : Layer → Type 0
HasShortPayload (layer.Dgram d) = length d.payload.now ≤ 65535
HasShortPayload (layer.Skip r) = ⊤

-- the time of a packet, which is known and within the 2^32 seconds since 1970
abbrev pub time_of : When → Result ℕ Reason
time_of (At time) = Ok time
time_of Outside = Err Time
time_of Missing = Err NoTime

-- the length that the header of UDP at an offset tells, with the 8 bytes of the header
abbrev pub udp_length : ℕ → List ℕ → ℕ
udp_length at bytes = be16 (at + 4) bytes

-- the datagram of UDP in an IP packet, from or to this port
abbrev pub udp_datagram : ℕ → ℕ → IpPacket → Packet → Result Datagram Reason
udp_datagram port time ip p = do
  _ ← skip_if (not (nat_eq ip.protocol 17)) NotUdp
  _ ← skip_if (nat_lt ip.end (ip.start + 8)) Length
  _ ← needs (ip.start + 8) p
  _ ← skip_if (not (nat_eq (be16 ip.start p.bytes) port) && not (nat_eq (be16 (ip.start + 2) p.bytes) port)) Port
  _ ← skip_if (nat_lt (udp_length ip.start p.bytes) 8) Length
  _ ← skip_if (nat_lt ip.end (ip.start + udp_length ip.start p.bytes)) Length
  _ ← needs (ip.start + udp_length ip.start p.bytes) p
  Ok (record {
    time = time;
    src = ip.src;
    dst = ip.dst;
    sport = be16 ip.start p.bytes;
    dport = be16 (ip.start + 2) p.bytes;
    hop = ip.hop;
    payload = take (udp_length ip.start p.bytes - 8) (drop (ip.start + 8) p.bytes);
  })

-- the datagram in a packet, from or to this port
abbrev pub datagram_of : ℕ → Packet → Result Datagram Reason
datagram_of port p = do
  time ← time_of p.when
  ip ← ip_packet_of p
  udp_datagram port time ip p

-- what was read is found
abbrev pub found : Result Datagram Reason → Found
found (Ok d) = datagram d
found (Err why) = skipped why

-- what a packet holds, for this port of DNS
unfoldable pub layer_of : ℕ → Packet → Found
layer_of port p = found (datagram_of port p)

-- the packets of a known time, over Ethernet, with the protocol of IPv4
pub record IsEthernetIpv4 (p : Packet) : Type 0 where
  pub time : (n : ℕ) × (p.when ≡ At n)
  pub link : p.link ≡ 1
  pub header : 14 ≤ length p.bytes
  pub protocol : be16 12 p.bytes ≡ 0x0800
