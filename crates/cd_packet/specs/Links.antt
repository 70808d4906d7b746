-- What stands after the link header of a packet.
use Rattle.std.specs.Prelude.{ℕ, zero, suc, ◌+◌, nat_eq, Bool, ◌||◌, if◌then◌else◌, Result, Err}
use Rattle.cd_bytes.specs.Numbers.{be16}
use Rattle.cd_packet.specs.IpPackets.{ipv4_packet, ipv6_packet, version_at}
use Rattle.cd_packet.specs.Readings.{◌>>=◌, needs}
use Rattle.cd_packet.specs.declared.datagram.Reason.{Reason}
use Rattle.cd_packet.specs.declared.datagram.Reason.TheVariants.{Link, NotIp}
use Rattle.cd_packet.specs.declared.ip_packet.IpPacket.{IpPacket}
use Rattle.cd_packet.specs.declared.packet.Packet.{Packet}

-- what a protocol says that stands at an offset: IPv4 or IPv6, by their numbers of Ethernet
abbrev pub network_packet : ℕ → ℕ → Packet → Result IpPacket Reason
network_packet protocol at p =
    if nat_eq protocol 0x0800 then ipv4_packet at p
    else (if nat_eq protocol 0x86dd then ipv6_packet at p
    else Err NotIp)

-- whether this protocol is a tag: of IEEE 802.1Q, or of 802.1ad
abbrev pub is_tag : ℕ → Bool
is_tag protocol = nat_eq protocol 0x8100 || nat_eq protocol 0x88a8

-- up to so many tags, each of four bytes, whose last two are the next protocol
unfoldable pub after_tags : ℕ → ℕ → ℕ → Packet → Result IpPacket Reason
after_tags zero protocol at p = network_packet protocol at p
after_tags (suc count) protocol at p =
    if is_tag protocol then (do
      _ ← needs (at + 4) p
      after_tags count (be16 (at + 2) p.bytes) (at + 4) p)
    else network_packet protocol at p

-- a link header of so many bytes, with the protocol at an offset, and then up to two tags
abbrev pub framed_packet : ℕ → ℕ → Packet → Result IpPacket Reason
framed_packet header protocol p = do
  _ ← needs header p
  after_tags 2 (be16 protocol p.bytes) header p

-- no link header: the version of IP decides
abbrev pub raw_packet : Packet → Result IpPacket Reason
raw_packet p = do
  _ ← needs 1 p
  if nat_eq (version_at 0 p.bytes) 4 then ipv4_packet 0 p
      else (if nat_eq (version_at 0 p.bytes) 6 then ipv6_packet 0 p
      else Err NotIp)

-- by the link type: Ethernet, IP alone, and the two headers of captures on any device of Linux (LINKTYPE_ETHERNET,
-- LINKTYPE_RAW, LINKTYPE_LINUX_SLL, LINKTYPE_LINUX_SLL2)
abbrev pub ip_packet_of : Packet → Result IpPacket Reason
ip_packet_of p =
    if nat_eq p.link 1 then framed_packet 14 12 p
    else (if nat_eq p.link 101 then raw_packet p
    else (if nat_eq p.link 113 then framed_packet 16 14 p
    else (if nat_eq p.link 276 then framed_packet 20 0 p
    else Err Link)))
