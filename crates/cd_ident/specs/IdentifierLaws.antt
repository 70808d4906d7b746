-- What identifiers tell apart, and that a response has those of its query.
use Rattle.std.specs.Prelude.{◌≡◌, ◌↔◌, ℕ, ◌<◌, ◌^◌, [], ◌∷◌, length, map}
use Rattle.cd_name.specs.Names.{lower_case}
use Rattle.cd_message.specs.declared.message.Question.{Question}
use Rattle.cd_message.specs.declared.message.Message.{Message}
use Rattle.cd_message.specs.WrittenLaws.{QuestionNumbersFit}
use Rattle.cd_packet.specs.Layers.{Datagram}
use Rattle.cd_ident.specs.Headers.{qr_of, opcode_of}
use Rattle.cd_ident.specs.Identifiers.{Ends, primary_of, secondary_of}
use Rattle.cd_ident.specs.Events.{message_ids}

-- addresses of sixteen octets, and ports of two bytes
pub record EndsFit (ends : Ends) : Type 0 where
  pub client : length ends.client.octets ≡ 16
  pub server : length ends.server.octets ≡ 16
  pub client_port : ends.client_port < 2 ^ 16
  pub server_port : ends.server_port < 2 ^ 16

-- the same version of IP, the same octets and the same ports
pub record AreSameEnds (one other : Ends) : Type 0 where
  pub version : one.client.v6 ≡ other.client.v6
  pub client : one.client.octets ≡ other.client.octets
  pub server : one.server.octets ≡ other.server.octets
  pub client_port : one.client_port ≡ other.client_port
  pub server_port : one.server_port ≡ other.server_port

-- primaries are equal exactly if their ends, IDs and opcodes are
abbrev pub PrimariesAreExact : Type 0
PrimariesAreExact = (one other : Ends) (id other_id opcode other_opcode : ℕ) → EndsFit one → EndsFit other →
    id < 2 ^ 16 → other_id < 2 ^ 16 →
    (primary_of one id opcode ≡ primary_of other other_id other_opcode)
    ↔ (AreSameEnds one other × (id ≡ other_id) × (opcode ≡ other_opcode))

-- secondaries of two questions are equal exactly if their types and classes are, and their names but for case
abbrev pub SecondariesAreExact : Type 0
SecondariesAreExact = (one other : Question) → QuestionNumbersFit one → QuestionNumbersFit other →
    (secondary_of (one ∷ []) ≡ secondary_of (other ∷ [])) ↔
    ((map lower_case one.name ≡ map lower_case other.name) × (one.rtype ≡ other.rtype) × (one.rclass ≡ other.rclass))

-- a datagram goes back where another came from
pub record GoesBack (sent back : Datagram) : Type 0 where
  pub src : back.src ≡ sent.dst
  pub dst : back.dst ≡ sent.src
  pub sport : back.sport ≡ sent.dport
  pub dport : back.dport ≡ sent.sport

-- a response that goes back where a query came from, with its ID and opcode, has its primary
abbrev pub ResponsesHaveThePrimary : Type 0
ResponsesHaveThePrimary = (sent back : Datagram) (query response : Message) → GoesBack sent back →
    qr_of query.bits ≡ 0 → qr_of response.bits ≡ 1 →
    response.id ≡ query.id → opcode_of response.bits ≡ opcode_of query.bits →
    (message_ids back response).primary ≡ (message_ids sent query).primary
