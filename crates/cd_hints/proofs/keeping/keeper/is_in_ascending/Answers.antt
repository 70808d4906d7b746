use Rattle.std.proofs.Common.{sym}
use Rattle.cd_hints.proofs.Searching.{not_found}
use Rattle.cd_hints.proofs.keeping.keeper.is_in_ascending.Goals as goal

pub returns-in-Err : goal.returns-in-Err
returns-in-Err c = sym (not_found _ _ _ c.in-Err.ensures.position c.requires)
