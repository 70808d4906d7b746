use Rattle.std.proofs.Common.{arith}
use Rattle.cd_file.proofs.Maps.{map_written, entry_written, entries_then}
use Rattle.cd_file.proofs.head.push_storage.Goals as goal

pub returns : goal.returns
returns c =
    let optional = rw c.optional_parameters-optional.ensures at c.in_ok-push_entries.ensures in
    let count = rw c.optional_parameters-optional.ensures at c.present_count.ensures.exact in
    entry_written _ _ _ _ _ c.in_ok-push_unsigned.ensures.ok
    (map_written _ _ _ _ _ c.in_ok-push_map_head.ensures.ok
    (entries_then _ _ _ _ _ c.in_ok-push_required_storage.ensures optional)
    (omega (arith, count)))
