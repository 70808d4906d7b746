use Rattle.std.proofs.Common.{arith}
use Rattle.cd_file.proofs.Maps.{map_written, entries_then, entry_last}
use Rattle.cd_file.proofs.tables.BlockDataSpelled.push.Goals as goal

pub returns : goal.returns
returns c =
    let numbers = rw (c.word.ensures, c.byte.ensures) at c.in_ok-push_entries.ensures in
    let count = rw (c.word.ensures, c.byte.ensures) at c.present_count.ensures.exact in
    map_written _ _ _ _ _ c.in_ok-push_map_head.ensures.ok
    (entries_then _ _ _ _ _ numbers (entry_last _ _ _ _ c.in_ok-push_optional.ensures))
    (omega (arith, count, c.value_count.ensures.exact))
