use Rattle.std.proofs.Common.{refl, ◌∙◌, ap, set}
use Rattle.std.proofs.lemmas.List.{map-set}
use Rattle.cd_chain.proofs.Writes.{same_links}
use Rattle.cd_chain.proofs.Places.{used_not_vacant, value_found}
use Rattle.cd_chain.specs.Links.{places_of}
use Rattle.cd_chain.proofs.slot.empty.Goals as goal

pub unreachable-requires : goal.unreachable-requires
unreachable-requires t c = used_not_vacant c.args.slots.now c.args.slot c.index-slots-slot.result c.replace.result c.in-Vacant.field-0 c.requires.slot c.requires.used c.replace.ensures.value c.in-Vacant.is

pub returns-clause-value : goal.returns-clause-value
returns-clause-value t c = value_found c.args.slots.now c.args.slot c.index-slots-slot.result c.replace.result c.in-Used.value c.requires.slot c.replace.ensures.value c.in-Used.is

pub returns-clause-links : goal.returns-clause-links
returns-clause-links t c = same_links c.args.slots.now c.args.slot c.index-slots-slot.result _ refl

pub returns-clause-places : goal.returns-clause-places
returns-clause-places t c = map-set _ c.args.slots.now c.args.slot _ ∙ ap (set (places_of c.args.slots.now) c.args.slot) c.replace.ensures.after
