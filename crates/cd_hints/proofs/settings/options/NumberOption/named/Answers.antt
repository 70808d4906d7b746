use Rattle.cd_hints.proofs.EachOption.{named_in_turn}
use Rattle.cd_hints.proofs.settings.options.NumberOption.named.Goals as goal

pub returns : goal.returns
returns c = named_in_turn c.args.name.now c.first_named.result c.first_named.ensures
