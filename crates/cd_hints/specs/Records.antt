-- Records: a query with its response, or an event that stands alone (RFC 8618 10).
use Rattle.std.specs.Prelude.{◌≡◌, ℕ, Bool, true, false, IsTrue, List, Option, Some, None, option_and_then}
use Rattle.cd_message.specs.declared.message.Message as dns
use Rattle.cd_ident.specs.declared.event.Body.{Body}
use Rattle.cd_ident.specs.declared.event.Body.TheVariants.{Message, Payload, Nothing}
use Rattle.cd_ident.specs.declared.event.Kind.TheVariants as kind
use Rattle.cd_ident.specs.Events.{EventParts}
use Rattle.cd_ident.specs.Keys.{parts_of}
use Rattle.cd_hints.specs.declared.record.Rec.{Rec}
use Rattle.cd_hints.specs.declared.record.Rec.TheVariants.{Pair, Query, Response, Malformed, Discarded}

-- the events of a record, as the parts of them
pub data RecordParts : Type 0 where
  pair : (query response : EventParts) → RecordParts
  unmatched_query : EventParts → RecordParts
  unmatched_response : EventParts → RecordParts
  malformed : EventParts → RecordParts
  discarded : EventParts → RecordParts

-- a record as clauses see it
abbrev pub record_parts : Rec → RecordParts
record_parts (Pair query response) = pair (parts_of query) (parts_of response)
record_parts (Query e) = unmatched_query (parts_of e)
record_parts (Response e) = unmatched_response (parts_of e)
record_parts (Malformed e) = malformed (parts_of e)
record_parts (Discarded e) = discarded (parts_of e)

-- each event has the kind that the record names
abbrev pub HasKinds : RecordParts → Type 0
HasKinds (pair query response) = (query.kind ≡ kind.Query) × (response.kind ≡ kind.Response)
HasKinds (unmatched_query e) = e.kind ≡ kind.Query
HasKinds (unmatched_response e) = e.kind ≡ kind.Response
HasKinds (malformed e) = e.kind ≡ kind.Malformed
HasKinds (discarded e) = e.kind ≡ kind.Discarded

-- the event whose time, ends and ID are those of the record: the query, or else the only event
abbrev pub main_event : RecordParts → EventParts
main_event (pair query response) = query
main_event (unmatched_query e) = e
main_event (unmatched_response e) = e
main_event (malformed e) = e
main_event (discarded e) = e

-- the query of a record, where there is one
abbrev pub query_of : RecordParts → Option EventParts
query_of (pair query response) = Some query
query_of (unmatched_query e) = Some e
query_of (unmatched_response e) = None
query_of (malformed e) = None
query_of (discarded e) = None

-- the response of a record, where there is one
abbrev pub response_of : RecordParts → Option EventParts
response_of (pair query response) = Some response
response_of (unmatched_query e) = None
response_of (unmatched_response e) = Some e
response_of (malformed e) = None
response_of (discarded e) = None

-- the message in a body, where it is one
abbrev pub message_in : Body → Option dns.Message
message_in (Message m) = Some m
message_in (Payload p) = None
message_in Nothing = None

-- the message of an event, where it has one
abbrev pub event_message : EventParts → Option dns.Message
event_message e = message_in e.body

-- the message of the query
abbrev pub query_message : RecordParts → Option dns.Message
query_message r = option_and_then event_message (query_of r)

-- the message of the response
abbrev pub response_message : RecordParts → Option dns.Message
response_message r = option_and_then event_message (response_of r)

-- the payload of a malformed message, in a body
abbrev pub payload_in : Body → Option (List ℕ)
payload_in (Message m) = None
payload_in (Payload p) = Some p
payload_in Nothing = None

-- whether a record is an item of a block: a pair, a query or a response
abbrev pub is_item : RecordParts → Bool
is_item (pair query response) = true
is_item (unmatched_query e) = true
is_item (unmatched_response e) = true
is_item (malformed e) = false
is_item (discarded e) = false

-- whether a record is a malformed message: a payload that is no message
abbrev pub is_malformed : RecordParts → Bool
is_malformed (pair query response) = false
is_malformed (unmatched_query e) = false
is_malformed (unmatched_response e) = false
is_malformed (malformed e) = true
is_malformed (discarded e) = false

-- a pair, a query or a response
abbrev pub IsItem : RecordParts → Type 0
IsItem r = IsTrue (is_item r)

-- a malformed message
abbrev pub IsMalformed : RecordParts → Type 0
IsMalformed r = IsTrue (is_malformed r)
