-- The earliest time of a run (RFC 8618 7.3.2.1).
use Rattle.std.specs.Prelude.{ℕ, ◌/◌, ◌%◌, ◌≤◌, min, List, Option, Some, None, IfSome}
use Rattle.std.specs.List.{All, filter_map, reduce}
use Rattle.std.specs.Option.{option_map}
use Rattle.cd_block.specs.declared.stamp.Stamp.{Stamp}
use Rattle.cd_hints.specs.Records.{RecordParts, pair, unmatched_query, unmatched_response, malformed, discarded}
use Rattle.cd_hints.specs.Ticks.{tick_of, stamp_tick}

-- The time of a record, in nanoseconds: that of the query of a pair. The time of a discarded message does not count.
abbrev pub time_of : RecordParts → Option ℕ
time_of (pair query response) = Some query.time
time_of (unmatched_query e) = Some e.time
time_of (unmatched_response e) = Some e.time
time_of (malformed e) = Some e.time
time_of (discarded e) = None

-- the tick of a record's time
abbrev pub record_tick : ℕ → RecordParts → Option ℕ
record_tick ticks r = option_map (tick_of ticks) (time_of r)

-- the least tick of a run, whether its records are kept or not; none where no record has a time
abbrev pub earliest_tick : ℕ → List RecordParts → Option ℕ
earliest_tick ticks run = reduce min (filter_map (record_tick ticks) run)

-- a tick as seconds and ticks within the second
abbrev pub stamp_of : ℕ → ℕ → Stamp
stamp_of ticks tick = record { seconds = tick / ticks; ticks = tick % ticks }

-- the earliest time of a run
abbrev pub earliest_time : ℕ → List RecordParts → Option Stamp
earliest_time ticks run = option_map (stamp_of ticks) (earliest_tick ticks run)

-- the stamp is at or before the record's time, where it has one
abbrev pub IsEarly : ℕ → Stamp → RecordParts → Type 0
IsEarly ticks s r = IfSome (record_tick ticks r) (λ tick. stamp_tick ticks s ≤ tick)

-- the stamp is at or before the time of each record
abbrev pub IsEarlyForEach : ℕ → Stamp → List RecordParts → Type 0
IsEarlyForEach ticks s run = All (IsEarly ticks s) run
