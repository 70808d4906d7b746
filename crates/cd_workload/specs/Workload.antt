-- The capture of a workload: lookups that are drawn from a seed, each a query and mostly its response.
use Rattle.std.specs.Prelude.{ℕ, zero, suc, ◌+◌, ◌*◌, ◌/◌, ◌%◌, ◌^◌, false, nat_eq, List, [], ◌∷◌, ◌++◌, codes, sum, refl}
use Rattle.std.specs.Prelude.{if◌then◌else◌}
use Rattle.std.specs.Fmt.{decimal}
use Rattle.std.specs.List.{flat_map}
use Rattle.cd_message.specs.declared.message.Question.{Question}
use Rattle.cd_message.specs.declared.message.Rr.{Rr}
use Rattle.cd_message.specs.declared.message.Message.{Message}
use Rattle.cd_message.specs.Written.{written_message}
use Rattle.cd_name.specs.NameLaws.{label_bytes}
use Rattle.cd_packet.specs.Building.{spelled}
use Rattle.cd_packet.specs.Layers.{Datagram}
use Rattle.cd_packet.specs.declared.address.Addr.{Addr}
use Rattle.cd_pcap.specs.Spelled.{RawRecord, spellings}
use Rattle.cd_pcap.specs.Writing.{written_form, written_header, written_record}
use Rattle.cd_workload.specs.declared.lookup.Lookup.{Lookup}

-- the state after a state, of a linear congruential generator modulo 2^64
abbrev pub next_state : ℕ → ℕ
next_state state = (state * 6364136223846793005 + 1442695040888963407) % 2 ^ 64

-- the number that is drawn at a state: its high 31 bits
abbrev pub draw : ℕ → ℕ
draw state = state / 2 ^ 33

-- so many lookups after this state, of which the first has this number
unfoldable pub lookups : ℕ → ℕ → ℕ → List Lookup
lookups zero number state = []
lookups (suc count) number state =
    record { number = number; drawn = draw (next_state state) } ∷ lookups count (number + 1) (next_state state)

-- an address of IPv4
abbrev pub ipv4 : ℕ → ℕ → ℕ → ℕ → Addr
ipv4 a b c d = record {
  v6 = false;
  octets = a ∷ b ∷ c ∷ d ∷ 0 ∷ 0 ∷ 0 ∷ 0 ∷ 0 ∷ 0 ∷ 0 ∷ 0 ∷ 0 ∷ 0 ∷ 0 ∷ 0 ∷ [];
  padded = λ is. refl;
}

-- the client that asks: 10.0.x.y, of the low 16 bits of what is drawn
abbrev pub client : ℕ → Addr
client drawn = ipv4 10 0 (drawn / 256 % 256) (drawn % 256)

-- the port of the client, 1,024 or more
abbrev pub client_port : ℕ → ℕ
client_port drawn = 1024 + drawn % 60000

-- the server that is asked
abbrev pub server : Addr
server = ipv4 192 0 2 53

-- the labels of a name: h and some digits, and the domain
abbrev pub labels_with : List ℕ → List (List ℕ)
labels_with digits = (codes "h" ++ digits) ∷ codes "example" ∷ []

-- the name with these labels and its root (RFC 1035 3.1)
abbrev pub name_with : List ℕ → List ℕ
name_with digits = label_bytes (labels_with digits) ++ 0 ∷ []

-- the name that is asked for: one of a thousand, each with its number in decimal
unfoldable pub name_of : ℕ → List ℕ
name_of drawn = name_with (decimal (drawn % 1000))

-- the question: the name, type A and class IN (RFC 1035 3.2.2, 3.2.4, 4.1.2)
abbrev pub question_of : ℕ → Question
question_of drawn = record { name = name_of drawn; rtype = 1; rclass = 1 }

-- the answer: an address of the name for five minutes (RFC 1035 3.4.1, 4.1.3)
abbrev pub answer_of : ℕ → Rr
answer_of drawn = record {
  owner = name_of drawn;
  rtype = 1;
  rclass = 1;
  ttl = 300;
  rdata = 198 ∷ 51 ∷ 100 ∷ drawn % 256 ∷ [];
}

-- the query, which desires recursion (RFC 1035 4.1.1)
abbrev pub query_of : Lookup → Message
query_of l = record {
  id = l.number % 0x10000;
  bits = 0x0100;
  questions = question_of l.drawn ∷ [];
  answers = [];
  authority = [];
  additional = [];
}

-- the response, with recursion available (RFC 1035 4.1.1)
abbrev pub response_of : Lookup → Message
response_of l = record {
  id = l.number % 0x10000;
  bits = 0x8180;
  questions = question_of l.drawn ∷ [];
  answers = answer_of l.drawn ∷ [];
  authority = [];
  additional = [];
}

-- when the query is sent: every 250 µs one, from 1,700,000,000 seconds after 1970 on
abbrev pub query_time : Lookup → ℕ
query_time l = 1700000000000000000 + l.number * 250000

-- when the response is sent: 100 µs after its query
abbrev pub response_time : Lookup → ℕ
response_time l = query_time l + 100000

-- the query as it is sent to the server
abbrev pub query_datagram : Lookup → Datagram
query_datagram l = record {
  time = query_time l;
  src = client l.drawn;
  dst = server;
  sport = client_port l.drawn;
  dport = 53;
  hop = 64;
  payload = written_message (query_of l);
}

-- the response as it is sent back
abbrev pub response_datagram : Lookup → Datagram
response_datagram l = record {
  time = response_time l;
  src = server;
  dst = client l.drawn;
  sport = 53;
  dport = client_port l.drawn;
  hop = 64;
  payload = written_message (response_of l);
}

-- the packet of the query
unfoldable pub query_packet : Lookup → List ℕ
query_packet l = spelled (query_datagram l)

-- the packet of the response
unfoldable pub response_packet : Lookup → List ℕ
response_packet l = spelled (response_datagram l)

-- the record of the query in the capture
abbrev pub query_record : Lookup → RawRecord
query_record l = written_record (query_time l) (query_packet l)

-- the record of the response
abbrev pub response_record : Lookup → RawRecord
response_record l = written_record (response_time l) (response_packet l)

-- the records of a lookup: one in sixteen has no response
unfoldable pub records_of : Lookup → List RawRecord
records_of l = query_record l ∷ (if nat_eq (l.drawn % 16) 0 then [] else response_record l ∷ [])

-- the records of so many lookups from a seed on
abbrev pub workload_records : ℕ → ℕ → List RawRecord
workload_records count seed = flat_map records_of (lookups count 0 seed)

-- The capture of so many lookups from a seed on: its header, and the records.
abbrev pub workload : ℕ → ℕ → List ℕ
workload count seed = written_header ++ spellings written_form (workload_records count seed)

-- the sum of some bytes modulo 2^32
abbrev pub file_sum : List ℕ → ℕ
file_sum bytes = sum bytes % 2 ^ 32
