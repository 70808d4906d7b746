use Rattle.cd_file.proofs.Maps.{entry_written}
use Rattle.cd_file.proofs.Numbers.{one_written}
use Rattle.cd_file.proofs.head.push_parameter_array.Goals as goal

pub returns : goal.returns
returns c =
    entry_written _ _ _ _ _ c.in_ok-push_unsigned.ensures.ok
    (one_written _ _ _ _ c.in_ok-push_array_head.ensures.ok c.in_ok-push_parameters.ensures)
