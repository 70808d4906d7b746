-- The ranges of the numbers of a datagram and of an event, which are those of their types.
use Rattle.std.specs.Prelude.{◌≡◌, ℕ, ◌+◌, ◌<◌, ◌≤◌, ◌^◌, length}
use Rattle.std.specs.List.{All}
use Rattle.cd_pairing.specs.declared.keyed.TheConstants.{LEAST_WEIGHT}
use Rattle.cd_message.specs.declared.message.Question.{Question}
use Rattle.cd_message.specs.declared.message.Rr.{Rr}
use Rattle.cd_message.specs.declared.message.Message as dns
use Rattle.cd_message.specs.MessageLaws.{AreBytes}
use Rattle.cd_message.specs.Weights.{weight_of}
use Rattle.cd_packet.specs.Layers.{Datagram}
use Rattle.cd_packet.specs.Time.{end_of_time}
use Rattle.cd_ident.specs.declared.event.Body.{Body}
use Rattle.cd_ident.specs.declared.event.Body.TheVariants.{Message, Payload, Nothing}
use Rattle.cd_ident.specs.Bodies.{HasBody}
use Rattle.cd_ident.specs.Events.{EventParts}
use Rattle.cd_ident.specs.Identifiers.{transport_of}
use Rattle.cd_hints.specs.Records.{RecordParts}
use Rattle.cd_record.specs.Laws.{events_of}

-- the ranges of a question
pub record QuestionInRange (q : Question) : Type 0 where
  pub rtype : q.rtype < 0x1_0000
  pub rclass : q.rclass < 0x1_0000

-- the ranges of a resource record
pub record RrInRange (r : Rr) : Type 0 where
  pub rtype : r.rtype < 0x1_0000
  pub rclass : r.rclass < 0x1_0000
  pub ttl : r.ttl < 0x1_0000_0000

-- the ranges of a message
pub record MessageInRange (m : dns.Message) : Type 0 where
  pub id : m.id < 0x1_0000
  pub questions : All QuestionInRange m.questions
  pub answers : All RrInRange m.answers
  pub authority : All RrInRange m.authority
  pub additional : All RrInRange m.additional

-- the ranges of what is kept of a payload
abbrev pub BodyInRange : Body → Type 0
BodyInRange (Message m) = MessageInRange m
BodyInRange (Payload p) = Unit {0}
BodyInRange Nothing = Unit {0}

-- what a body weighs: its message, or 256 and its bytes
abbrev pub body_weight : Body → ℕ
body_weight (Message m) = weight_of m
body_weight (Payload p) = LEAST_WEIGHT + length p
body_weight Nothing = LEAST_WEIGHT

-- the ranges of an event, whose body is of its kind and whose weight is at least that of its body
pub record EventInRange (e : EventParts) : Type 0 where
  pub client : length e.client.octets ≤ 16
  pub server : length e.server.octets ≤ 16
  pub client_port : e.client_port < 0x1_0000
  pub server_port : e.server_port < 0x1_0000
  pub hop : e.hop < 0x100
  pub transport : transport_of e.ids ≤ 15
  pub has_body : HasBody e.kind e.body
  pub body : BodyInRange e.body
  pub weight : body_weight e.body ≤ e.weight

-- the time and the size of an event: before the end of time, and of 64 bits
pub record EventIsTimed (e : EventParts) : Type 0 where
  pub time : e.time < end_of_time
  pub size : e.size < 2 ^ 64

-- the ranges of the events of a record
abbrev pub RecordInRange : RecordParts → Type 0
RecordInRange r = All EventInRange (events_of r)

-- the times and the sizes of the events of a record
abbrev pub RecordIsTimed : RecordParts → Type 0
RecordIsTimed r = All EventIsTimed (events_of r)

-- the ranges of a datagram, whose addresses have sixteen octets as `Addr` has them
pub record DatagramInRange (d : Datagram) : Type 0 where
  pub src : length d.src.octets ≡ 16
  pub dst : length d.dst.octets ≡ 16
  pub sport : d.sport < 0x1_0000
  pub dport : d.dport < 0x1_0000
  pub hop : d.hop < 0x100
  pub payload : AreBytes d.payload
