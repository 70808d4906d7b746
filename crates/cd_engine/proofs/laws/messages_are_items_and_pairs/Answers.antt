use Rattle.cd_engine.proofs.ItemsAndPairs.{items_and_pairs}
use Rattle.cd_engine.proofs.laws.messages_are_items_and_pairs.Goals as goal

pub returns : goal.returns
returns c = items_and_pairs
