use Rattle.std.proofs.Common.{refl, ◌∙◌}
use Rattle.cd_chain.proofs.Making.{makes_one}
use Rattle.cd_chain.proofs.spare.push_spare.Goals as goal

pub returns-clause-made : goal.returns-clause-made
returns-clause-made g c = makes_one c.args.slots.now.items _ c.args.free _ _ refl refl c.in-Ok.ensures.items (c.len-slot.ensures ∙ c.args.slots.now.ok.0) c.requires.frees
