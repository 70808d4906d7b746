use Rattle.std.proofs.Common.{refl}
use Rattle.std.proofs.Math.Seq.{map-set_same}
use Rattle.cd_chain.proofs.Writes.{slot_linked, slot_unlinked}
use Rattle.cd_chain.proofs.slot.set_link.Goals as goal

pub returns-clause-links : goal.returns-clause-links
returns-clause-links t c = slot_linked c.args.slots.now c.args.lane c.args.slot c.args.link c.index-slots-slot.result _ c.requires.slot c.with_lane-links.ensures

pub returns-clause-others : goal.returns-clause-others
returns-clause-others t c = slot_unlinked c.args.slots.now c.args.lane c.args.slot c.args.link c.index-slots-slot.result _ c.requires.slot c.with_lane-links.ensures

pub returns-clause-places : goal.returns-clause-places
returns-clause-places t c = map-set_same _ c.args.slots.now c.args.slot _ c.index-slots-slot-2.result refl
