-- The datagrams of an item and of a malformed message, and their packets (RFC 8618 7.3.2.4, 7.3.2.6).
use Rattle.std.specs.Prelude.{ℕ, not, ◌&&◌, List, [], ◌∷◌, ◌++◌, if◌then◌else◌, Option, unwrap_or, option_and_then}
use Rattle.std.specs.Option.{option_map_or}
use Rattle.cd_block.specs.declared.kept.KeptSig.{KeptSig}
use Rattle.cd_block.specs.declared.kept.KeptItem.{KeptItem}
use Rattle.cd_block.specs.declared.kept.KeptData.{KeptData}
use Rattle.cd_block.specs.declared.kept.KeptMalformed.{KeptMalformed}
use Rattle.cd_block.specs.declared.stamp.Stamp.{Stamp}
use Rattle.cd_message.specs.declared.message.Message.{Message}
use Rattle.cd_message.specs.Written.{written_if_fits}
use Rattle.cd_packet.specs.Building.{built}
use Rattle.cd_packet.specs.Layers.{Datagram}
use Rattle.cd_rebuild.specs.Ends.{item_ends, malformed_ends}
use Rattle.cd_rebuild.specs.Flags.{has_query, has_response, is_bare_signature, is_bare_data, is_udp}
use Rattle.cd_rebuild.specs.Messages.{query_of, response_of}
use Rattle.cd_rebuild.specs.Times.{offset_tick, response_tick, nanoseconds}
use Rattle.cd_rebuild.specs.declared.ends.Ends.{Ends}
use Rattle.cd_rebuild.specs.declared.sending.Sending.{Sending}

-- the hop limit of a packet of which none is kept (RFC 1700)
abbrev pub default_hop : ℕ
default_hop = 64

-- a datagram from the client to the server
abbrev pub to_server : Ends → ℕ → ℕ → List ℕ → Datagram
to_server e time hop payload = record {
  time = time;
  src = e.client;
  dst = e.server;
  sport = e.client_port;
  dport = e.server_port;
  hop = hop;
  payload = payload;
}

-- a datagram from the server to the client
abbrev pub to_client : Ends → ℕ → ℕ → List ℕ → Datagram
to_client e time hop payload = record {
  time = time;
  src = e.server;
  dst = e.client;
  sport = e.server_port;
  dport = e.client_port;
  hop = hop;
  payload = payload;
}

-- the packet of a query; none where its message or its payload is too long
abbrev pub query_packet : Ends → ℕ → ℕ → Message → Option (List ℕ)
query_packet e time hop m = option_and_then (λ payload. built (to_server e time hop payload)) (written_if_fits m)

-- the packet of a response; none where its message or its payload is too long
abbrev pub response_packet : Ends → ℕ → Message → Option (List ℕ)
response_packet e time m = option_and_then (λ payload. built (to_client e time default_hop payload)) (written_if_fits m)

-- when the query of an item was sent
abbrev pub query_time : ℕ → Option Stamp → KeptItem → ℕ
query_time ticks earliest i = nanoseconds ticks (offset_tick ticks earliest i.time_offset)

-- when the response of an item was sent
abbrev pub response_time : ℕ → Option Stamp → KeptItem → KeptSig → ℕ
response_time ticks earliest i s =
    nanoseconds ticks (response_tick (has_query s) i.response_delay (offset_tick ticks earliest i.time_offset))

-- the query of an item, as it is sent
abbrev pub query_sending : ℕ → Option Stamp → KeptItem → KeptSig → Sending
query_sending ticks earliest i s = record {
  time = query_time ticks earliest i;
  packet = query_packet (item_ends i s) (query_time ticks earliest i) (unwrap_or i.client_hoplimit default_hop)
      (query_of i s);
}

-- the response of an item, as it is sent
abbrev pub response_sending : ℕ → Option Stamp → KeptItem → KeptSig → Sending
response_sending ticks earliest i s = record {
  time = response_time ticks earliest i s;
  packet = response_packet (item_ends i s) (response_time ticks earliest i s) (response_of i s);
}

-- what is sent of an item with a signature: its query, and then its response
abbrev pub signed_sendings : ℕ → Option Stamp → KeptItem → KeptSig → List Sending
signed_sendings ticks earliest i s =
    (if has_query s then query_sending ticks earliest i s ∷ [] else [])
    ++ (if has_response s then response_sending ticks earliest i s ∷ [] else [])

-- What is sent of an item: nothing where it is bare, or its transport is not UDP.
abbrev pub item_sendings : ℕ → Option Stamp → KeptItem → List Sending
item_sendings ticks earliest i =
    option_map_or (λ s. if not (is_bare_signature s) && is_udp s.transport_flags then signed_sendings ticks earliest i s else [])
    i.signature []

-- when a malformed message was sent
abbrev pub malformed_time : ℕ → Option Stamp → KeptMalformed → ℕ
malformed_time ticks earliest m = nanoseconds ticks (offset_tick ticks earliest m.time_offset)

-- a malformed message, as it is sent
abbrev pub malformed_sending : ℕ → Option Stamp → KeptMalformed → KeptData → List ℕ → Sending
malformed_sending ticks earliest m d payload = record {
  time = malformed_time ticks earliest m;
  packet = built (to_server (malformed_ends m d) (malformed_time ticks earliest m) default_hop payload);
}

-- What is sent of a malformed message: nothing where it is bare, or its transport is not UDP.
abbrev pub malformed_sendings : ℕ → Option Stamp → KeptMalformed → List Sending
malformed_sendings ticks earliest m =
    option_map_or (λ d. if not (is_bare_data d) && is_udp d.transport_flags
    then malformed_sending ticks earliest m d (unwrap_or d.payload []) ∷ [] else []) m.message_data []
