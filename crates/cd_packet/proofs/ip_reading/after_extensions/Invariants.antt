use Rattle.std.proofs.Common.{◌≡◌, ◌-◌, ◌≤◌, length}
use Rattle.cd_packet.specs.IpPackets.{walked}
use Rattle.cd_packet.proofs.ip_reading.after_extensions.Given as goal

abbrev pub invariant-extensions : goal.invariant-extensions
invariant-extensions l =
    (walked l.packet l.fn.header ≡ walked l.packet (record l.fn.header { protocol = l.protocol; start = l.start }))
    × (l.start ≤ length l.packet.bytes)

abbrev pub decreases-extensions : goal.decreases-extensions
decreases-extensions l = l.fn.header.end - l.start
