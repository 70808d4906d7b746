use Rattle.std.proofs.Common.{◌≡◌}
use Rattle.std.specs.List.{filter_map}
use Rattle.cd_rebuild.specs.Rebuilding.{packet_of}
use Rattle.cd_rebuild.proofs.rebuilding.packets_of.Given as goal

-- the packets of what was sent so far
abbrev pub invariant-sendings : goal.invariant-sendings
invariant-sendings l = l.packets.items ≡ filter_map packet_of l.yielded
