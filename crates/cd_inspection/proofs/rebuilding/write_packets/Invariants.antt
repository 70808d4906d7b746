use Rattle.std.proofs.Common.{◌≡◌, ◌++◌, take}
use Rattle.std.specs.List.{flat_map}
use Rattle.cd_inspection.specs.Rebuilding.{packet_record}
use Rattle.cd_inspection.proofs.rebuilding.write_packets.Given as goal

-- what was written before, and the records of the packets so far
abbrev pub invariant-packets : goal.invariant-packets
invariant-packets l = l.out ≡ l.fn.out ++ flat_map packet_record (take l.packet-index l.packets)
