use Rattle.std.proofs.Common.{arith}
use Rattle.cd_file.proofs.Maps.{map_written, entry_then, entry_last}
use Rattle.cd_file.proofs.head.push_parameters.Goals as goal

pub returns : goal.returns
returns c =
    let collection = rw c.timeouts-collection.ensures at c.in_ok-push_optional_map.ensures in
    let count = rw c.timeouts-collection.ensures at c.map_count.ensures.exact in
    map_written _ _ _ _ _ c.in_ok-push_map_head.ensures.ok
    (entry_then _ _ _ _ _ _ c.in_ok-push_storage.ensures (entry_last _ _ _ _ collection))
    (omega (arith, count))
