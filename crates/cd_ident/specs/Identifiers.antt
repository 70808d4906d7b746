-- The identifiers of an event (RFC 8618 10.2): a primary that both halves of an exchange have, and a secondary that one
-- may lack.
use Rattle.std.specs.Prelude.{◌≡◌, ℕ, Bool, ◌&&◌, nat_eq, List, [], ◌∷◌, ◌++◌, map, if◌then◌else◌, slice_index, Option}
use Rattle.std.specs.Prelude.{Some, None, ◌⊎◌}
use Rattle.std.specs.Int.{w16, to_be_bytes}
use Rattle.std.specs.Cmp.Lexicographic.{pointwise}
use Rattle.cd_name.specs.Names.{lower_case}
use Rattle.cd_message.specs.declared.message.Question.{Question}
use Rattle.cd_packet.specs.declared.address.Addr.{Addr}
use Rattle.cd_packet.specs.Layers.{Datagram}
use Rattle.cd_pairing.specs.Events.{secondaries_agree}
use Rattle.cd_ident.specs.declared.identifiers.Ids.{Ids}

-- who asks and who answers
pub record Ends : Type 0 where
  pub client : Addr
  pub server : Addr
  pub client_port : ℕ
  pub server_port : ℕ

-- a datagram's source asks and its destination answers, or the other way round
abbrev pub ends_of : Bool → Datagram → Ends
ends_of from_client d =
    if from_client then record { client = d.src; server = d.dst; client_port = d.sport; server_port = d.dport }
    else record { client = d.dst; server = d.src; client_port = d.dport; server_port = d.sport }

-- the version of IP as a byte: 1 for IPv6, 0 for IPv4
abbrev pub version_byte : Bool → ℕ
version_byte v6 = if v6 then 1 else 0

-- The primary, 41 bytes: the version of IP, the client's address, the server's, the client's port, the server's, 0 for
-- UDP, the ID and the opcode (RFC 8618 10.2.1).
abbrev pub primary_of : Ends → ℕ → ℕ → List ℕ
primary_of ends id opcode =
    version_byte ends.client.v6 ∷ ends.client.octets ++ ends.server.octets ++ to_be_bytes w16 ends.client_port
    ++ to_be_bytes w16 ends.server_port
    ++ 0 ∷ to_be_bytes w16 id ++ opcode ∷ []

-- The secondary: the name of the first question in lower case, its type and its class (RFC 8618 10.2.2).
abbrev pub secondary_of : List Question → Option (List ℕ)
secondary_of [] = None
secondary_of (q ∷ others) = Some (map lower_case q.name ++ to_be_bytes w16 q.rtype ++ to_be_bytes w16 q.rclass)

-- the identifiers of what is no message, or is not listed: its ends alone
abbrev pub bare_ids : Ends → Ids
bare_ids ends = record { primary = primary_of ends 0 0; secondary = None }

-- the transport: the byte after the ports
abbrev pub transport_of : Ids → ℕ
transport_of ids = slice_index ids.primary 37

-- equal primaries, and secondaries that are equal or of which one is absent
abbrev pub ids_agree : Ids → Ids → Bool
ids_agree one other = pointwise nat_eq one.primary other.primary && secondaries_agree one.secondary other.secondary

-- the same in words
abbrev pub IdsAgree : Ids → Ids → Type 0
IdsAgree one other = (one.primary ≡ other.primary)
    × ((one.secondary ≡ other.secondary) ⊎ ((one.secondary ≡ None) ⊎ (other.secondary ≡ None)))
