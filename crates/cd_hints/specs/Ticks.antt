-- Times in ticks, of which a second has as many as the storage parameters say (RFC 8618 7.3.1.1.1).
use Rattle.std.specs.Prelude.{ℕ, ◌+◌, ◌*◌, ◌/◌, ◌≤◌}
use Rattle.cd_block.specs.declared.stamp.Stamp.{Stamp}

-- a second in nanoseconds
abbrev pub second : ℕ
second = 1000000000

-- the tick of a time: its nanoseconds divided by the length of a tick, which is a whole number of nanoseconds, rounded
-- down
abbrev pub tick_of : ℕ → ℕ → ℕ
tick_of ticks time = time / (second / ticks)

-- the tick of a stamp
abbrev pub stamp_tick : ℕ → Stamp → ℕ
stamp_tick ticks s = s.seconds * ticks + s.ticks

-- a stamp is at or before a time
abbrev pub IsAtOrBefore : ℕ → Stamp → ℕ → Type 0
IsAtOrBefore ticks s time = stamp_tick ticks s ≤ tick_of ticks time
