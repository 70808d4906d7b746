-- When a packet was captured, by the clock of its interface (the pcapng draft, 4.2 and 4.3).
use Rattle.std.specs.Prelude.{◌≡◌, ℕ, ◌+◌, ◌-◌, ◌*◌, ◌/◌, ◌^◌, ◌<◌, ℤ, pos, negsuc, Bool, true, false, nat_lt}
use Rattle.std.specs.Prelude.{if◌then◌else◌}
use Rattle.cd_packet.specs.Time.{end_of_time, when_at, when_at-timely}
use Rattle.cd_packet.specs.declared.packet.When.{When}
use Rattle.cd_packet.specs.declared.packet.When.TheVariants.{At, Outside, Missing}

-- A resolution is in range: a power of 10 down to 10^-12, or, with the top bit set, a power of 2 down to 2^-63.
abbrev pub is_resolution : ℕ → Bool
is_resolution resolution = if nat_lt resolution 128 then nat_lt resolution 13 else nat_lt resolution 192

-- how many units a second has at this resolution
abbrev pub units_in_second : ℕ → ℕ
units_in_second resolution = if nat_lt resolution 128 then 10 ^ resolution else 2 ^ (resolution - 128)

-- so many units in nanoseconds, rounded down
abbrev pub nanos_of : ℕ → ℕ → ℕ
nanos_of units ticks = ticks * 1000000000 / units

-- the time of so many nanoseconds since 1970, moved by an offset in seconds
abbrev pub moved_by : ℤ → ℕ → When
moved_by (pos seconds) nanos = when_at (nanos + seconds * 1000000000)
moved_by (negsuc seconds) nanos =
    if nat_lt nanos ((seconds + 1) * 1000000000) then Outside else when_at (nanos - (seconds + 1) * 1000000000)

-- a choice that is a time is the second one
second_chosen : (before : Bool) (w : When) (n : ℕ) → (if before then Outside else w) ≡ At n → w ≡ At n
second_chosen true w n e = absurd cc
second_chosen false w n e = e

-- a moved time is below the end of all times
pub moved_by-timely : (offset : ℤ) (nanos n : ℕ) → moved_by offset nanos ≡ At n → n < end_of_time
moved_by-timely (pos seconds) nanos n e = when_at-timely (nanos + seconds * 1000000000) n e
moved_by-timely (negsuc seconds) nanos n e =
    when_at-timely (nanos - (seconds + 1) * 1000000000) n
    (second_chosen (nat_lt nanos ((seconds + 1) * 1000000000)) (when_at (nanos - (seconds + 1) * 1000000000)) n e)

-- a time that is missing is no time
pub missing-timely : (n : ℕ) → Missing ≡ At n → n < end_of_time
missing-timely n e = absurd cc
