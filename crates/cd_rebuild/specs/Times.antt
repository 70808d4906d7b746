-- When a message was sent, in nanoseconds since 1970 (RFC 8618 7.3.2.1, 7.3.2.4). A second has as many ticks as the
-- storage parameters say (RFC 8618 7.3.1.1.1).
use Rattle.std.specs.Prelude.{ℕ, suc, ◌+◌, ◌-◌, ◌*◌, ◌/◌, min, ℤ, pos, negsuc, Bool, if◌then◌else◌, Option, unwrap_or}
use Rattle.std.specs.Option.{option_map_or}
use Rattle.cd_block.specs.declared.stamp.Stamp.{Stamp}
use Rattle.cd_packet.specs.Time.{end_of_time}

-- the tick of the earliest time of a block, 0 where it is absent (RFC 8618 7.3.2.1)
abbrev pub earliest_tick : ℕ → Option Stamp → ℕ
earliest_tick ticks earliest = option_map_or (λ s. s.seconds * ticks + s.ticks) earliest 0

-- the tick of an item or of a malformed message, so long after the earliest time (RFC 8618 7.3.2.4, 7.3.2.6)
abbrev pub offset_tick : ℕ → Option Stamp → Option ℕ → ℕ
offset_tick ticks earliest offset = earliest_tick ticks earliest + unwrap_or offset 0

-- so many ticks later, or earlier; a tick before 1970 is the first one of 1970
abbrev pub moved_by : ℤ → ℕ → ℕ
moved_by (pos later) tick = tick + later
moved_by (negsuc earlier) tick = tick - suc earlier

-- the tick of the response: that of its item, and for a pair the response delay after it (RFC 8618 7.3.2.4)
abbrev pub response_tick : Bool → Option ℤ → ℕ → ℕ
response_tick is_pair delay tick = if is_pair then moved_by (unwrap_or delay (pos 0)) tick else tick

-- the nanoseconds of a tick, rounded down; after the last one of 2^32 seconds they are that one
abbrev pub nanoseconds : ℕ → ℕ → ℕ
nanoseconds ticks tick = min (tick * 1000000000 / ticks) (end_of_time - 1)
