-- What is kept of a record, field by field (RFC 8618 7.3.2.4, 7.3.2.3.2, 7.3.2.6). A field of an item or of its
-- signature is there exactly where its hint is set and it has a value; a malformed message is whole.
use Rattle.std.specs.Prelude.{ℕ, ◌-◌, pos, ◌-ℤ◌, ℤ, Bool, false, length, slice_get, Option, Some, None, option_and_then}
use Rattle.std.specs.Option.{option_map, option_map_or, option_or}
use Rattle.cd_block.specs.declared.hints.TheConstants as hint
use Rattle.cd_block.specs.declared.kept.KeptSig.{KeptSig}
use Rattle.cd_block.specs.declared.kept.KeptItem.{KeptItem}
use Rattle.cd_block.specs.declared.kept.KeptData.{KeptData}
use Rattle.cd_block.specs.declared.kept.KeptMalformed.{KeptMalformed}
use Rattle.cd_block.specs.declared.params.Params.{Params}
use Rattle.cd_block.specs.declared.stamp.Stamp.{Stamp}
use Rattle.cd_edns.specs.Opts.{opt_of_message, full_rcode_of}
use Rattle.cd_edns.specs.declared.opt_record.Opt.{Opt}
use Rattle.cd_ident.specs.Events.{EventParts}
use Rattle.cd_ident.specs.Headers.{opcode_of}
use Rattle.cd_message.specs.declared.message.Question.{Question}
use Rattle.cd_message.specs.declared.message.Message.{Message}
use Rattle.cd_hints.specs.Addresses.{client_address, server_address}
use Rattle.cd_hints.specs.Flags.{transport_flags, signature_flags, dns_flags}
use Rattle.cd_hints.specs.Hinted.{kept}
use Rattle.cd_hints.specs.Lists.{query_lists, response_lists, no_lists}
use Rattle.cd_hints.specs.Records.{RecordParts, pair, unmatched_query, unmatched_response, malformed, discarded}
use Rattle.cd_hints.specs.Records.{main_event, query_of, response_of, event_message, query_message, response_message}
use Rattle.cd_hints.specs.Records.{payload_in}
use Rattle.cd_hints.specs.Ticks.{tick_of, stamp_tick}

-- the first question of a message
abbrev pub first_question : Message → Option Question
first_question m = slice_get m.questions 0

-- the lead question: the query's first one, or the response's first one where there is no query or it has none
abbrev pub lead_question : RecordParts → Option Question
lead_question r =
    option_or (option_and_then first_question (query_message r)) (option_and_then first_question (response_message r))

-- the query's OPT record
abbrev pub query_opt : RecordParts → Option Opt
query_opt r = option_and_then opt_of_message (query_message r)

-- the message whose ID, opcode and question count are those of the record: the query's, or else the only one
abbrev pub main_message : RecordParts → Option Message
main_message r = event_message (main_event r)

-- bytes stand after the query's message
abbrev pub is_query_trailing : RecordParts → Bool
is_query_trailing r = option_map_or (λ e. e.trailing) (query_of r) false

-- The signature of a record (RFC 8618 7.3.2.3.2).
abbrev pub kept_signature : Params → RecordParts → KeptSig
kept_signature p r = record {
  -- the server's address, cut to its prefix
  server_address = kept p.hints.sig hint.SIG_SERVER_ADDRESS (Some (server_address p.prefixes (main_event r).server));
  server_port = kept p.hints.sig hint.SIG_SERVER_PORT (Some (main_event r).server_port);
  transport_flags = kept p.hints.sig hint.SIG_TRANSPORT_FLAGS
      (Some (transport_flags (main_event r) (is_query_trailing r)));
  sig_flags = kept p.hints.sig hint.SIG_SIG_FLAGS (Some (signature_flags (query_message r) (response_message r)));
  opcode = kept p.hints.sig hint.SIG_OPCODE (option_map (λ m. opcode_of m.bits) (main_message r));
  dns_flags = kept p.hints.sig hint.SIG_DNS_FLAGS (Some (dns_flags (query_message r) (response_message r)));
  -- the RCODE of twelve bits, where there is a query
  query_rcode = kept p.hints.sig hint.SIG_QUERY_RCODE (option_map full_rcode_of (query_message r));
  -- the type and the class, where there is a lead question
  classtype = kept p.hints.sig hint.SIG_CLASSTYPE (option_map (λ q. (q.rtype, q.rclass)) (lead_question r));
  -- how many questions the query has, or else the response
  qd = kept p.hints.sig hint.SIG_QDCOUNT (option_map (λ m. length m.questions) (main_message r));
  -- how many records each section of the query has, where there is a query
  an = kept p.hints.sig hint.SIG_ANCOUNT (option_map (λ m. length m.answers) (query_message r));
  ns = kept p.hints.sig hint.SIG_NSCOUNT (option_map (λ m. length m.authority) (query_message r));
  ar = kept p.hints.sig hint.SIG_ARCOUNT (option_map (λ m. length m.additional) (query_message r));
  -- where the query has an OPT record
  edns_version = kept p.hints.sig hint.SIG_EDNS_VERSION (option_map (λ o. o.version) (query_opt r));
  udp_size = kept p.hints.sig hint.SIG_UDP_SIZE (option_map (λ o. o.udp_size) (query_opt r));
  opt_rdata = kept p.hints.sig hint.SIG_OPT_RDATA (option_map (λ o. o.rdata) (query_opt r));
  -- the RCODE of twelve bits, where there is a response
  response_rcode = kept p.hints.sig hint.SIG_RESPONSE_RCODE (option_map full_rcode_of (response_message r));
}

-- ticks from the earliest time to that of an event
abbrev pub time_offset : Params → Stamp → EventParts → ℕ
time_offset p earliest e = tick_of p.ticks e.time - stamp_tick p.ticks earliest

-- ticks from a query to its response, fewer than 0 where the response came first
abbrev pub ticks_between : Params → EventParts → EventParts → ℤ
ticks_between p query response = pos (tick_of p.ticks response.time) -ℤ pos (tick_of p.ticks query.time)

-- the response delay: for pairs
abbrev pub response_delay : Params → RecordParts → Option ℤ
response_delay p (pair query response) = Some (ticks_between p query response)
response_delay p (unmatched_query e) = None
response_delay p (unmatched_response e) = None
response_delay p (malformed e) = None
response_delay p (discarded e) = None

-- The item of a record, in a block with this earliest time (RFC 8618 7.3.2.4).
abbrev pub kept_item : Params → Stamp → RecordParts → KeptItem
kept_item p earliest r = record {
  time_offset = kept p.hints.qr hint.QR_TIME_OFFSET (Some (time_offset p earliest (main_event r)));
  -- the client's address, cut to its prefix
  client_address = kept p.hints.qr hint.QR_CLIENT_ADDRESS (Some (client_address p.prefixes (main_event r).client));
  client_port = kept p.hints.qr hint.QR_CLIENT_PORT (Some (main_event r).client_port);
  transaction_id = kept p.hints.qr hint.QR_TRANSACTION_ID (option_map (λ m. m.id) (main_message r));
  signature = kept p.hints.qr hint.QR_SIGNATURE (Some (kept_signature p r));
  -- where there is a query
  client_hoplimit = kept p.hints.qr hint.QR_CLIENT_HOPLIMIT (option_map (λ e. e.hop) (query_of r));
  -- where there are both
  response_delay = kept p.hints.qr hint.QR_RESPONSE_DELAY (response_delay p r);
  -- where there is a lead question
  query_name = kept p.hints.qr hint.QR_QUERY_NAME (option_map (λ q. q.name) (lead_question r));
  -- where there is a query, and where there is a response
  query_size = kept p.hints.qr hint.QR_QUERY_SIZE (option_map (λ e. e.size) (query_of r));
  response_size = kept p.hints.qr hint.QR_RESPONSE_SIZE (option_map (λ e. e.size) (response_of r));
  -- each list of resource records has a hint of its own, and the questions of both halves share one
  query_extended = option_map_or (query_lists p) (query_message r) no_lists;
  response_extended = option_map_or (response_lists p) (response_message r) no_lists;
}

-- the data of a malformed message, whole (RFC 8618 7.3.2.3.5)
abbrev pub kept_data : Params → EventParts → KeptData
kept_data p e = record {
  server_address = Some (server_address p.prefixes e.server);
  server_port = Some e.server_port;
  transport_flags = Some (transport_flags e false);
  payload = payload_in e.body;
}

-- a malformed message, whole, in a block with this earliest time (RFC 8618 7.3.2.6)
abbrev pub kept_malformed : Params → Stamp → RecordParts → KeptMalformed
kept_malformed p earliest r = record {
  time_offset = Some (time_offset p earliest (main_event r));
  client_address = Some (client_address p.prefixes (main_event r).client);
  client_port = Some (main_event r).client_port;
  message_data = Some (kept_data p (main_event r));
}
