use Rattle.std.proofs.Common.{refl, ◌∙◌, ap, set}
use Rattle.std.proofs.lemmas.List.{map-set}
use Rattle.cd_chain.proofs.Writes.{same_links}
use Rattle.cd_chain.proofs.Places.{free_not_used, cell_found}
use Rattle.cd_chain.specs.Links.{places_of}
use Rattle.cd_chain.proofs.slot.fill.Goals as goal

pub unreachable-requires : goal.unreachable-requires
unreachable-requires t c = free_not_used c.args.slots.now c.args.slot c.index-slots-slot.result c.replace.result c.in-Used.field-0 c.requires.slot c.requires.free c.replace.ensures.value c.in-Used.is

pub returns-clause-next : goal.returns-clause-next
returns-clause-next t c = cell_found c.args.slots.now c.args.slot c.index-slots-slot.result c.replace.result c.in-Vacant.next c.requires.slot c.replace.ensures.value c.in-Vacant.is

pub returns-clause-links : goal.returns-clause-links
returns-clause-links t c = same_links c.args.slots.now c.args.slot c.index-slots-slot.result _ refl

pub returns-clause-places : goal.returns-clause-places
returns-clause-places t c = map-set _ c.args.slots.now c.args.slot _ ∙ ap (set (places_of c.args.slots.now) c.args.slot) c.replace.ensures.after
