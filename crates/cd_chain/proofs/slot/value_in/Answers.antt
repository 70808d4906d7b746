use Rattle.std.proofs.Common.{refl, get_or}
use Rattle.cd_chain.proofs.Places.{used_not_vacant, value_found}
use Rattle.cd_chain.proofs.slot.value_in.Goals as goal

pub unreachable-requires : goal.unreachable-requires
unreachable-requires g c = used_not_vacant c.args.slots.now c.args.slot c.index-slots-slot.result (get_or c.args.slots.now c.args.slot c.index-slots-slot.result).place c.in-Vacant.field-0 c.requires.slot c.requires.used refl c.in-Vacant.is

pub returns : goal.returns
returns g c = value_found c.args.slots.now c.args.slot c.index-slots-slot.result (get_or c.args.slots.now c.args.slot c.index-slots-slot.result).place c.in-Used.value c.requires.slot refl c.in-Used.is
