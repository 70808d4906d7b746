-- The datagrams of a lookup, of parts that are equal to its own.
use Rattle.std.proofs.Common.{◌≡◌, ◌%◌, ℕ, List, ◌++◌, refl, ap}
use Rattle.std.proofs.lemmas.Bool.{eq-eqb, ne_eqb}
use Rattle.std.proofs.lemmas.List.{append-nil}
use Rattle.cd_message.specs.Written.{written_message}
use Rattle.cd_packet.specs.Building.{spelled}
use Rattle.cd_packet.specs.Layers.{Datagram}
use Rattle.cd_packet.specs.declared.address.Addr.{Addr}
use Rattle.cd_pcap.specs.Spelled.{spelling_of, spellings}
use Rattle.cd_pcap.specs.Writing.{written_form}
use Rattle.cd_workload.specs.Workload.{client, client_port, server, query_of, response_of, query_time, response_time, query_datagram, response_datagram, query_packet, response_packet, query_record, response_record, records_of}
use Rattle.cd_workload.specs.declared.lookup.Lookup.{Lookup}

-- a datagram of these parts
abbrev pub datagram_of : ℕ → Addr → Addr → ℕ → ℕ → List ℕ → Datagram
datagram_of time src dst sport dport payload = record {
  time = time;
  src = src;
  dst = dst;
  sport = sport;
  dport = dport;
  hop = 64;
  payload = payload;
}

-- that of the query
pub query_datagram-is : (l : Lookup) (time : ℕ) (src dst : Addr) (sport : ℕ) (payload : List ℕ) → time ≡ query_time l →
    src ≡ client l.drawn → dst ≡ server → sport ≡ client_port l.drawn → payload ≡ written_message (query_of l) →
    datagram_of time src dst sport 53 payload ≡ query_datagram l
query_datagram-is l time src dst sport payload a b c d e = rw (a, b, c, d, e) refl

-- that of the response
pub response_datagram-is : (l : Lookup) (time : ℕ) (src dst : Addr) (dport : ℕ) (payload : List ℕ) →
    time ≡ response_time l → src ≡ server → dst ≡ client l.drawn → dport ≡ client_port l.drawn →
    payload ≡ written_message (response_of l) → datagram_of time src dst 53 dport payload ≡ response_datagram l
response_datagram-is l time src dst dport payload a b c d e = rw (a, b, c, d, e) refl

-- the packets
pub query_packet-is : (l : Lookup) → spelled (query_datagram l) ≡ query_packet l
unfolding query_packet
query_packet-is l = refl

pub response_packet-is : (l : Lookup) → spelled (response_datagram l) ≡ response_packet l
unfolding response_packet
response_packet-is l = refl

-- the records of a lookup with no response
pub unanswered : (l : Lookup) → l.drawn % 16 ≡ 0 →
    spellings written_form (records_of l) ≡ spelling_of written_form (query_record l)
unfolding records_of
unanswered l none = rw (eq-eqb (l.drawn % 16) 0 none) (append-nil (spelling_of written_form (query_record l)))

-- and of one with a response
pub answered : (l : Lookup) → (l.drawn % 16 ≡ 0 → ⊥) →
    spellings written_form (records_of l)
    ≡ spelling_of written_form (query_record l) ++ spelling_of written_form (response_record l)
unfolding records_of
answered l some =
    rw (ne_eqb (l.drawn % 16) 0 some)
    (ap (λ t. spelling_of written_form (query_record l) ++ t) (append-nil (spelling_of written_form (response_record l))))
