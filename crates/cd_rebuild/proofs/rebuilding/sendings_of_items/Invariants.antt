use Rattle.std.proofs.Common.{◌≡◌, take}
use Rattle.std.specs.List.{flat_map}
use Rattle.cd_rebuild.specs.Datagrams.{item_sendings}
use Rattle.cd_rebuild.proofs.rebuilding.sendings_of_items.Given as goal

-- what is sent of the items so far
abbrev pub invariant-items : goal.invariant-items
invariant-items l = l.sendings.items ≡ flat_map (item_sendings l.ticks l.earliest) (take l.item-index l.items)
