use Rattle.std.proofs.Common.{◌≡◌, ◌≤◌, length}
use Rattle.cd_packet.specs.Links.{after_tags}
use Rattle.cd_packet.proofs.link_reading.after_tags.Given as goal

abbrev pub invariant-tags : goal.invariant-tags
invariant-tags l = (after_tags 2 l.fn.first l.fn.header l.packet ≡ after_tags l.left l.protocol l.at l.packet)
    × (l.at ≤ length l.packet.bytes)

abbrev pub decreases-tags : goal.decreases-tags
decreases-tags l = l.left
