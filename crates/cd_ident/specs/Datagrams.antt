-- Datagrams as contracts see them.
use Rattle.cd_packet.specs.declared.datagram.Dgram.{Dgram}
use Rattle.cd_packet.specs.Layers.{Datagram}

-- a datagram without where its payload lies in memory
abbrev pub datagram_of : Dgram → Datagram
datagram_of d = record {
  time = d.time;
  src = d.src;
  dst = d.dst;
  sport = d.sport;
  dport = d.dport;
  hop = d.hop;
  payload = d.payload.now;
}
