-- The event of a datagram is in range.
use Rattle.std.proofs.Common.{◌≡◌, ◌∙◌, ℕ, ◌≤◌, Bool, true, false, List, [], ◌∷◌, ◌++◌, length, get_or, Option, None, Result, Ok, Err, refl, ap, arith, append_assoc, length-append, inl, inr, ◌+◌}
use Rattle.std.specs.Prelude.{if◌then◌else◌, nat_eq}
use Rattle.std.specs.Int.{w16, to_be_bytes}
use Rattle.std.proofs.Math.Seq.{get_or-append_seam}
use Rattle.std.proofs.lemmas.Bool.{cases_Bool, eqb-true, eqb-false}
use Rattle.cd_message.specs.declared.message.Message as dns
use Rattle.cd_message.specs.declared.message.MsgWhy.{MsgWhy}
use Rattle.cd_message.specs.Messages.{message_of}
use Rattle.cd_message.specs.Valid.{Valid}
use Rattle.cd_message.proofs.Valid.{messages_are_valid}
use Rattle.cd_packet.specs.Layers.{Datagram}
use Rattle.cd_pairing.specs.declared.keyed.TheConstants.{LEAST_WEIGHT}
use Rattle.cd_ident.specs.declared.event.Body.{Body}
use Rattle.cd_ident.specs.declared.event.Body.TheVariants.{Message, Payload, Nothing}
use Rattle.cd_ident.specs.declared.event.Kind.{Kind}
use Rattle.cd_ident.specs.declared.event.Kind.TheVariants.{Query, Response, Malformed, Discarded}
use Rattle.cd_ident.specs.declared.event_rules.EventRules.{EventRules}
use Rattle.cd_ident.specs.declared.identifiers.Ids.{Ids}
use Rattle.cd_ident.specs.Bodies.{HasBody}
use Rattle.cd_ident.specs.Events.{parts_of_payload, parts_of_reading, event_parts, message_ends, message_ids}
use Rattle.cd_ident.specs.Headers.{qr_of, opcode_of, is_listed}
use Rattle.cd_ident.specs.IdentifierLaws.{EndsFit}
use Rattle.cd_ident.specs.Identifiers.{Ends, ends_of, version_byte, primary_of, secondary_of, bare_ids, transport_of}
use Rattle.cd_size.specs.Laws.{EventsAreInRange}
use Rattle.cd_size.specs.Ranges.{DatagramInRange, EventInRange, BodyInRange, body_weight}
use Rattle.cd_size.proofs.MessageRanges.{message_ranged}

-- the ends of a datagram in range
ends_in_range : (from_client : Bool) (d : Datagram) → DatagramInRange d → EndsFit (ends_of from_client d)
ends_in_range true d range =
    record { client = range.src; server = range.dst; client_port = range.sport; server_port = range.dport }
ends_in_range false d range =
    record { client = range.dst; server = range.src; client_port = range.dport; server_port = range.sport }

-- a number after so many others
number_after : (front after : List ℕ) (x n : ℕ) → n ≡ length front → get_or (front ++ x ∷ after) n 0 ≡ x
number_after front after x n is = ap (λ k. get_or (front ++ x ∷ after) k 0) is ∙ get_or-append_seam front x after 0

-- a primary before its ports
abbrev addresses : Ends → List ℕ
addresses e = version_byte e.client.v6 ∷ e.client.octets ++ e.server.octets

-- a primary before its transport
abbrev before_transport : Ends → List ℕ
before_transport e = addresses e ++ to_be_bytes w16 e.client_port ++ to_be_bytes w16 e.server_port

-- these are 37 bytes
length_before_transport : (e : Ends) → EndsFit e → 37 ≡ length (before_transport e)
length_before_transport e range =
    omega (
      arith,
      length-append (version_byte e.client.v6 ∷ e.client.octets) e.server.octets,
      length-append (addresses e) (to_be_bytes w16 e.client_port),
      length-append (addresses e ++ to_be_bytes w16 e.client_port) (to_be_bytes w16 e.server_port),
      range.client,
      range.server,
    )

-- the transport is 0, that of UDP
transport_is_udp : (e : Ends) (id opcode : ℕ) (secondary : Option (List ℕ)) → EndsFit e →
    transport_of (record { primary = primary_of e id opcode; secondary = secondary }) ≡ 0
transport_is_udp e id opcode secondary range =
    ap (λ xs. get_or xs 37 0) (append_assoc (before_transport e) (0 ∷ to_be_bytes w16 id) (opcode ∷ []))
    ∙ number_after (before_transport e) (to_be_bytes w16 id ++ opcode ∷ []) 0 37 (length_before_transport e range)

-- an event of a payload
made_in_range : (d : Datagram) (ends : Ends) (kind : Kind) (trailing : Bool) (ids : Ids) (weight : ℕ) (body : Body) →
    DatagramInRange d → EndsFit ends → transport_of ids ≡ 0 → HasBody kind body → BodyInRange body →
    body_weight body ≤ weight →
    EventInRange (parts_of_payload d ends kind trailing ids weight body)
made_in_range d ends kind trailing ids weight body range fit transport has ranged weighs = record {
  client = omega (arith, fit.client);
  server = omega (arith, fit.server);
  client_port = fit.client_port;
  server_port = fit.server_port;
  hop = range.hop;
  transport = omega (arith, transport);
  has_body = has;
  body = ranged;
  weight = weighs;
}

-- an event of a payload that is no message
malformed_in_range : (d : Datagram) (from_client : Bool) → DatagramInRange d →
    EventInRange (parts_of_payload d (ends_of from_client d) Malformed false (bare_ids (ends_of from_client d))
    (LEAST_WEIGHT + length d.payload) (Payload d.payload))
malformed_in_range d from_client range =
    let fit = ends_in_range from_client d range in
    made_in_range d (ends_of from_client d) Malformed false (bare_ids (ends_of from_client d)) _
    (Payload d.payload) range fit
    (transport_is_udp (ends_of from_client d) 0 0 None fit) tt tt (omega arith)

-- a valid message is of a query where QR is 0, and else of a response
has_message : (m : dns.Message) (b : Bool) → nat_eq (qr_of m.bits) 0 ≡ b → Valid m →
    HasBody (if b then Query else Response) (Message m)
has_message m true is valid = (valid, eqb-true (qr_of m.bits) 0 is)
has_message m false is valid =
    let not_zero = eqb-false (qr_of m.bits) 0 is in
    let one : qr_of m.bits ≡ 1 = omega (arith, not_zero) in (valid, one)

-- what a payload spells, or breaks
reading_in_range : (rules : EventRules) (d : Datagram) (r : Result (dns.Message × ℕ) MsgWhy) → DatagramInRange d →
    message_of d.payload ≡ r →
    EventInRange (parts_of_reading rules d r)
reading_in_range rules d (Err why) range is = malformed_in_range d (nat_eq d.dport rules.port) range
reading_in_range rules d (Ok x) range is =
    let fit = ends_in_range (nat_eq (qr_of (x.0).bits) 0) d range in
    let valid = messages_are_valid d.payload x.0 x.1 range.payload is in
    let ranged = message_ranged d.payload x.0 x.1 range.payload is in
    elim (cases_Bool (is_listed rules.opcodes (opcode_of (x.0).bits))) [
      | inl listed ↦ rw listed
          (made_in_range d (message_ends d x.0) _ _ (message_ids d x.0) _ (Message x.0) range fit
          (transport_is_udp (message_ends d x.0) (x.0).id (opcode_of (x.0).bits) (secondary_of (x.0).questions) fit)
          (has_message x.0 (nat_eq (qr_of (x.0).bits) 0) refl valid) ranged (omega arith))
      | inr other ↦ rw other
          (made_in_range d (message_ends d x.0) Discarded _ (bare_ids (message_ends d x.0)) _ Nothing range fit
          (transport_is_udp (message_ends d x.0) 0 0 None fit) tt tt (omega arith))
    ]

-- the law
pub events_in_range : EventsAreInRange
unfolding event_parts
events_in_range rules d range = reading_in_range rules d (message_of d.payload) range refl
