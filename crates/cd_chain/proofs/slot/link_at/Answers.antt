use Rattle.std.proofs.Common.{◌∙◌}
use Rattle.cd_chain.proofs.Writes.{link_here}
use Rattle.cd_chain.proofs.slot.link_at.Goals as goal

pub returns : goal.returns
returns t c = c.lane_link.ensures ∙ link_here c.args.slots.now c.args.lane c.args.slot c.index-slots-slot.result c.requires
