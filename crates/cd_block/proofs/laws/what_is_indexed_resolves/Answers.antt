use Rattle.cd_block.proofs.Indexing.{indexed_resolves}
use Rattle.cd_block.proofs.laws.what_is_indexed_resolves.Goals as goal

pub returns : goal.returns
returns c = indexed_resolves c.args.kept.now c.names_are_names.ensures
