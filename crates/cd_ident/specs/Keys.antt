-- How the pairing sees an event, and that compatible identifiers are what it asks.
use Rattle.std.specs.Prelude.{◌≡◌}
use Rattle.cd_pairing.specs.declared.keyed.Side.{Side}
use Rattle.cd_pairing.specs.declared.keyed.Side.TheVariants as side
use Rattle.cd_pairing.specs.Events.{EventView}
use Rattle.cd_pairing.specs.Pairing.{identifiers_agree}
use Rattle.cd_ident.specs.declared.event.Event.{Event}
use Rattle.cd_ident.specs.declared.event.Kind.{Kind}
use Rattle.cd_ident.specs.declared.event.Kind.TheVariants.{Query, Response, Malformed, Discarded}
use Rattle.cd_ident.specs.Identifiers.{ids_agree}
use Rattle.cd_ident.specs.Events.{EventParts}

-- the parts of an event
abbrev pub parts_of : Event → EventParts
parts_of e = record {
  time = e.time;
  kind = e.kind;
  client = e.client;
  server = e.server;
  client_port = e.client_port;
  server_port = e.server_port;
  hop = e.hop;
  size = e.size;
  trailing = e.trailing;
  ids = e.ids;
  weight = e.weight;
  body = e.body;
}

-- queries and responses are paired, and the others stand alone
abbrev pub side_of : Kind → Side
side_of Query = side.Query
side_of Response = side.Response
side_of Malformed = side.Neither
side_of Discarded = side.Neither

-- what an event of these parts shows to the pairing
abbrev pub view_of_parts : EventParts → EventView
view_of_parts e = record {
  side = side_of e.kind;
  time = e.time;
  weight = e.weight;
  primary = e.ids.primary;
  secondary = e.ids.secondary;
}

-- what an event shows to the pairing
abbrev pub view_of : Event → EventView
view_of e = view_of_parts (parts_of e)

-- the identifiers of two events are compatible exactly as the pairing asks
abbrev pub CompatibleIdsAreTheKeys : Type 0
CompatibleIdsAreTheKeys =
    (one other : Event) → ids_agree one.ids other.ids ≡ identifiers_agree (view_of one) (view_of other)
