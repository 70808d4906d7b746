-- The root as a name.
use Rattle.std.proofs.Common.{[], ◌∷◌, refl, arith}
use Rattle.cd_name.specs.Names.{IsName, are_labels_and_root}

-- the root is a name (RFC 1035 3.1)
pub root_is_name : IsName (0 ∷ [])
unfolding are_labels_and_root
root_is_name = (refl, omega arith)
