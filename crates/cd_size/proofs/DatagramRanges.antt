-- The datagram that a packet of bytes holds is in range.
use Rattle.std.proofs.Common.{◌≡◌, ℕ, ◌+◌, ◌-◌, ◌<◌, List, length, take, drop, refl, arith, subst, inl, inr}
use Rattle.std.proofs.lemmas.Bool.{cases_lt}
use Rattle.std.proofs.lemmas.List.{get_or-take, get_or-drop, get_or_past, length-take}
use Rattle.cd_bytes.specs.Numbers.{be16}
use Rattle.cd_message.specs.MessageLaws.{AreBytes}
use Rattle.cd_packet.proofs.Holding.{IsReadFrom, layer_read}
use Rattle.cd_packet.specs.Layers.{Datagram, datagram, layer_of}
use Rattle.cd_packet.specs.declared.packet.Packet.{Packet}
use Rattle.cd_size.specs.Laws.{DatagramsAreInRange}
use Rattle.cd_size.specs.Ranges.{DatagramInRange}
use Rattle.cd_size.proofs.MessageRanges.{word_short}

-- bytes from an offset on are bytes
pub dropped_bytes : (n : ℕ) (xs : List ℕ) → AreBytes xs → AreBytes (drop n xs)
dropped_bytes n xs bytes i = omega (arith, get_or-drop n xs i 0, bytes (n + i))

-- so are the first ones
pub taken_bytes : (n : ℕ) (xs : List ℕ) → AreBytes xs → AreBytes (take n xs)
taken_bytes n xs bytes i =
    elim (cases_lt i n) [
      | inl within ↦ omega (arith, get_or-take n xs i 0 within, bytes i)
      | inr past ↦
          let none = get_or_past (take n xs) i 0 (omega (arith, past, length-take n xs)) in
          omega (arith, none)
    ]

-- all of a datagram is read from its packet
read_ranged : (p : Packet) (d : Datagram) → AreBytes p.bytes → IsReadFrom p d → DatagramInRange d
read_ranged p d bytes r = record {
  src = r.src;
  dst = r.dst;
  sport = rw r.sport (word_short r.at p.bytes bytes);
  dport = rw r.dport (word_short (r.at + 2) p.bytes bytes);
  hop = rw r.hop (bytes r.hop_at);
  payload = rw r.payload (taken_bytes (be16 (r.at + 4) p.bytes - 8) (drop (r.at + 8) p.bytes)
      (dropped_bytes (r.at + 8) p.bytes bytes));
}

-- the law
pub datagrams_in_range : DatagramsAreInRange
datagrams_in_range port p d bytes is = read_ranged p d bytes (layer_read port p d is)
