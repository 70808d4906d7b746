use Rattle.std.proofs.Common.{arith}
use Rattle.cd_file.proofs.Maps.{map_written, entries_then, entry_then, entry_last}
use Rattle.cd_file.proofs.items.BlockItemSpelled.push.Goals as goal

pub returns : goal.returns
returns c =
    let front = rw (c.word.ensures, c.word-2.ensures, c.byte.ensures) at c.in_ok-push_entries.ensures in
    let front_count = rw (c.word.ensures, c.word-2.ensures, c.byte.ensures) at c.present_count.ensures.exact in
    map_written _ _ _ _ _ c.in_ok-push_map_head.ensures.ok
    (entries_then _ _ _ _ _ front
    (entry_then _ _ _ _ _ _ c.in_ok-push_optional.ensures
    (entries_then _ _ _ _ _ c.in_ok-push_entries-2.ensures
    (entry_then _ _ _ _ _ _ c.in_ok-push_extended.ensures
    (entry_last _ _ _ _ c.in_ok-push_extended-2.ensures)))))
    (omega (arith, front_count, c.value_count.ensures.exact, c.present_count-2.ensures.exact, c.extended_count.ensures.exact, c.extended_count-2.ensures.exact))
