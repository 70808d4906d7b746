use Rattle.std.proofs.Common.{arith}
use Rattle.cd_file.proofs.Maps.{map_written, entry_written, entry_last}
use Rattle.cd_file.proofs.block.push_preamble.Goals as goal

pub returns : goal.returns
returns c =
    entry_written _ _ _ _ _ c.in_ok-push_unsigned.ensures.ok
    (map_written _ _ _ _ _ c.in_ok-push_map_head.ensures.ok (entry_last _ _ _ _ c.in_ok-push_optional.ensures) (omega (arith, c.value_count.ensures.exact)))
