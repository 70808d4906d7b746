use Rattle.cd_file.proofs.Maps.{entry_written}
use Rattle.cd_file.proofs.spelled.push_required.Goals as goal

pub returns : goal.returns
returns g c = entry_written _ _ _ _ _ c.in_ok-push_unsigned.ensures.ok c.in_ok-push.ensures
