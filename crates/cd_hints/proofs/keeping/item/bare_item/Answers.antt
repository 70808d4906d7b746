use Rattle.std.proofs.Common.{rules}
use Rattle.cd_hints.proofs.BareFields.{item_by_fields}
use Rattle.cd_hints.proofs.keeping.item.bare_item.Goals as goal

pub returns : goal.returns
returns c =
    item_by_fields _ _ (search rules) (search rules) (search rules) (search rules) (search rules) (search rules)
    (search rules) (search rules) (search rules) (search rules) (search rules) (search rules)
