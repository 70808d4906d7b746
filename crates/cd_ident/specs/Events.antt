-- What a datagram is in the traffic of DNS, as the parts of its event.
use Rattle.std.specs.Prelude.{ℕ, ◌+◌, nat_eq, nat_lt, Bool, false, length, if◌then◌else◌, Result, Ok, Err}
use Rattle.cd_packet.specs.declared.address.Addr.{Addr}
use Rattle.cd_packet.specs.Layers.{Datagram}
use Rattle.cd_message.specs.declared.message.Message as dns
use Rattle.cd_message.specs.declared.message.MsgWhy.{MsgWhy}
use Rattle.cd_message.specs.Messages.{message_of}
use Rattle.cd_message.specs.Weights.{weight_of}
use Rattle.cd_pairing.specs.declared.keyed.TheConstants.{LEAST_WEIGHT}
use Rattle.cd_ident.specs.declared.event.Kind.{Kind}
use Rattle.cd_ident.specs.declared.event.Kind.TheVariants.{Query, Response, Malformed, Discarded}
use Rattle.cd_ident.specs.declared.event.Body.{Body}
use Rattle.cd_ident.specs.declared.event.Body.TheVariants.{Message, Payload, Nothing}
use Rattle.cd_ident.specs.declared.event_rules.EventRules.{EventRules}
use Rattle.cd_ident.specs.declared.identifiers.Ids.{Ids}
use Rattle.cd_ident.specs.Headers.{qr_of, opcode_of, is_listed}
use Rattle.cd_ident.specs.Identifiers.{Ends, ends_of, primary_of, secondary_of, bare_ids}

-- all fields of an event
pub record EventParts : Type 0 where
  pub time : ℕ
  pub kind : Kind
  pub client : Addr
  pub server : Addr
  pub client_port : ℕ
  pub server_port : ℕ
  pub hop : ℕ
  pub size : ℕ
  pub trailing : Bool
  pub ids : Ids
  pub weight : ℕ
  pub body : Body

-- what a payload is: its kind, its ends, whether bytes follow the message, its identifiers, its weight and what is kept
-- of it
abbrev pub parts_of_payload : Datagram → Ends → Kind → Bool → Ids → ℕ → Body → EventParts
parts_of_payload d ends kind trailing ids weight body = record {
  time = d.time;
  kind = kind;
  client = ends.client;
  server = ends.server;
  client_port = ends.client_port;
  server_port = ends.server_port;
  hop = d.hop;
  size = length d.payload;
  trailing = trailing;
  ids = ids;
  weight = weight;
  body = body;
}

-- A payload that is no message goes to the server where its destination port is that of DNS.
abbrev pub malformed_parts : EventRules → Datagram → EventParts
malformed_parts rules d =
    let ends : Ends = ends_of (nat_eq d.dport rules.port) d in
    parts_of_payload d ends Malformed false (bare_ids ends) (LEAST_WEIGHT + length d.payload) (Payload d.payload)

-- a message with QR 0 goes to the server
abbrev pub message_ends : Datagram → dns.Message → Ends
message_ends d m = ends_of (nat_eq (qr_of m.bits) 0) d

-- the identifiers of a message
abbrev pub message_ids : Datagram → dns.Message → Ids
message_ids d m = record {
  primary = primary_of (message_ends d m) m.id (opcode_of m.bits);
  secondary = secondary_of m.questions;
}

-- a message whose opcode is not listed
abbrev pub discarded_parts : Datagram → dns.Message → ℕ → EventParts
discarded_parts d m used =
    parts_of_payload d (message_ends d m) Discarded (nat_lt used (length d.payload)) (bare_ids (message_ends d m))
    LEAST_WEIGHT Nothing

-- a message whose opcode is listed
abbrev pub kept_parts : Datagram → dns.Message → ℕ → EventParts
kept_parts d m used =
    parts_of_payload d (message_ends d m) (if nat_eq (qr_of m.bits) 0 then Query else Response)
    (nat_lt used (length d.payload)) (message_ids d m) (weight_of m) (Message m)

-- a message that takes so many bytes of the payload
abbrev pub message_parts : EventRules → Datagram → dns.Message → ℕ → EventParts
message_parts rules d m used =
    if is_listed rules.opcodes (opcode_of m.bits) then kept_parts d m used else discarded_parts d m used

-- what the payload spells, or breaks
abbrev pub parts_of_reading : EventRules → Datagram → Result (dns.Message × ℕ) MsgWhy → EventParts
parts_of_reading rules d (Ok x) = message_parts rules d x.0 x.1
parts_of_reading rules d (Err why) = malformed_parts rules d

-- the event of a datagram
unfoldable pub event_parts : EventRules → Datagram → EventParts
event_parts rules d = parts_of_reading rules d (message_of d.payload)
