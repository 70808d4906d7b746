use Rattle.cd_rebuild.proofs.Ordering.{one_order}
use Rattle.cd_rebuild.proofs.laws.packets_have_one_order.Goals as goal

pub returns : goal.returns
returns c = one_order
