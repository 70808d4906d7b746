-- The records of a list of events: the pairs and the events that stand alone, by their positions (RFC 8618 10).
use Rattle.std.specs.Prelude.{◌*◌, List, map, slice_get, Option, unwrap_or, option_and_then}
use Rattle.std.specs.List.{filter_map}
use Rattle.std.specs.Option.{option_map}
use Rattle.cd_hints.specs.Records.{RecordParts}
use Rattle.cd_hints.specs.Records as parts
use Rattle.cd_hints.specs.declared.settings.Settings.{Settings}
use Rattle.cd_ident.specs.Events.{EventParts}
use Rattle.cd_ident.specs.Keys.{view_of_parts}
use Rattle.cd_ident.specs.declared.event.Kind.{Kind}
use Rattle.cd_ident.specs.declared.event.Kind.TheVariants.{Query, Response, Malformed, Discarded}
use Rattle.cd_pairing.specs.Events.{EventView}
use Rattle.cd_pairing.specs.Records.{Record, pair, single}
use Rattle.cd_pairing.specs.declared.keyed.Windows.{Windows}

-- the windows of these settings: their timeouts in nanoseconds
abbrev pub windows_of : Settings → Windows
windows_of s = record {
  query_ns = unwrap_or s.params.query_ms 0 * 1000000;
  skew_ns = unwrap_or s.params.skew_us 0 * 1000;
  count = s.window;
  bytes = s.window_bytes;
}

-- what the events show to the pairing
abbrev pub views_of : List EventParts → List EventView
views_of events = map view_of_parts events

-- an event of this kind as a record of its own
abbrev pub single_of_kind : Kind → EventParts → RecordParts
single_of_kind Query e = parts.unmatched_query e
single_of_kind Response e = parts.unmatched_response e
single_of_kind Malformed e = parts.malformed e
single_of_kind Discarded e = parts.discarded e

-- an event as a record of its own
abbrev pub single_record : EventParts → RecordParts
single_record e = single_of_kind e.kind e

-- two events as one record, of which the earlier is of this kind
abbrev pub pair_of_kind : Kind → EventParts → EventParts → RecordParts
pair_of_kind Query earlier later = parts.pair earlier later
pair_of_kind Response earlier later = parts.pair later earlier
pair_of_kind Malformed earlier later = parts.pair earlier later
pair_of_kind Discarded earlier later = parts.pair earlier later

-- two events as one record
abbrev pub pair_record : EventParts → EventParts → RecordParts
pair_record earlier later = pair_of_kind earlier.kind earlier later

-- the record with the events at its positions, where they are there
abbrev pub record_at : List EventParts → Record → Option RecordParts
record_at events (pair i j) =
    option_and_then (λ earlier. option_map (pair_record earlier) (slice_get events j)) (slice_get events i)
record_at events (single i) = option_map single_record (slice_get events i)

-- the records with the events at their positions
abbrev pub records_at : List EventParts → List Record → List RecordParts
records_at events rs = filter_map (record_at events) rs
