use Rattle.cd_name.proofs.NameSizes.{whole_is_name}
use Rattle.cd_name.proofs.name.is_name.Goals as goal

pub returns : goal.returns
returns c = whole_is_name c.args.bytes.now c.name_size.result c.eq.result c.name_size.ensures c.eq.ensures
