use Rattle.cd_file.proofs.Maps.{map_written}
use Rattle.cd_file.proofs.entries.push_map.Goals as goal

pub returns : goal.returns
returns c = map_written _ _ _ _ _ c.in_ok-push_map_head.ensures.ok c.in_ok-push_entries.ensures c.present_count.ensures.exact
