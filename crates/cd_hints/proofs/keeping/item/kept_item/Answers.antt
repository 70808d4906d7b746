use Rattle.std.proofs.Common.{rules, ap}
use Rattle.cd_block.specs.declared.block.BlockItem.{BlockItem}
use Rattle.cd_hints.proofs.ItemFields.{item_by_fields}
use Rattle.cd_hints.proofs.keeping.item.kept_item.Goals as goal

pub returns : goal.returns
returns c =
    let bare = c.bare_item-bare.ensures in
    item_by_fields _ _ (ap (λ (b : BlockItem). b.time_offset) bare) (search rules) (ap (λ (b : BlockItem). b.client_port) bare)
    (ap (λ (b : BlockItem). b.transaction_id) bare) (search rules) (ap (λ (b : BlockItem). b.client_hoplimit) bare)
    (ap (λ (b : BlockItem). b.response_delay) bare) (search rules) (ap (λ (b : BlockItem). b.query_size) bare)
    (ap (λ (b : BlockItem). b.response_size) bare) (search rules) (search rules)
