use Rattle.std.proofs.Common.{rules}
use Rattle.cd_hints.proofs.BareFields.{signature_by_fields}
use Rattle.cd_hints.proofs.keeping.signature.bare_signature.Goals as goal

pub returns : goal.returns
returns c =
    signature_by_fields _ _ (search rules) (search rules) (search rules) (search rules) (search rules) (search rules) (search rules) (search rules)
    (search rules) (search rules) (search rules) (search rules) (search rules) (search rules) (search rules) (search rules)
