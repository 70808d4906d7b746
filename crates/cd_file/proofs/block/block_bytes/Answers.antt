use Rattle.std.proofs.Common.{arith}
use Rattle.cd_file.specs.Files.{block_spelling}
use Rattle.cd_file.proofs.Maps.{map_written, entry_then, entry_last}
use Rattle.cd_file.proofs.block.block_bytes.Goals as goal

pub returns : goal.returns
unfolding block_spelling
returns c =
    map_written _ _ _ _ _ c.in_ok-push_map_head.ensures.ok
    (entry_then _ _ _ _ _ _ c.in_ok-push_preamble.ensures
    (entry_then _ _ _ _ _ _ c.in_ok-push_optional.ensures
    (entry_then _ _ _ _ _ _ c.in_ok-push_tables.ensures
    (entry_then _ _ _ _ _ _ c.in_ok-push_optional_array.ensures
    (entry_last _ _ _ _ c.in_ok-push_optional_array-2.ensures)))))
    (omega (arith, c.value_count.ensures.exact, c.tables_count.ensures.exact, c.array_count.ensures.exact, c.array_count-2.ensures.exact))
