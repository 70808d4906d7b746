use Rattle.cd_cbor.proofs.ToldItems.{events_are_the_items}
use Rattle.cd_cbor.proofs.laws.events_are_the_items.Goals as goal

pub returns : goal.returns
returns c = events_are_the_items
