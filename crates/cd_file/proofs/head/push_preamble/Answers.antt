use Rattle.std.proofs.Common.{refl}
use Rattle.cd_file.proofs.Maps.{map_written, entry_then, entry_last}
use Rattle.cd_file.proofs.head.push_preamble.Goals as goal

pub returns : goal.returns
returns c =
    map_written _ _ _ _ _ c.in_ok-push_map_head.ensures.ok
    (entry_then _ _ _ _ _ _ c.in_ok-push_required.ensures
    (entry_then _ _ _ _ _ _ c.in_ok-push_required-2.ensures
    (entry_last _ _ _ _ c.in_ok-push_parameter_array.ensures)))
    refl
