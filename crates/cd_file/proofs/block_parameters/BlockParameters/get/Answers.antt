-- Those that are held have ticks in their range.
use Rattle.cd_file.proofs.TicksHeld.{least_ticks, most_ticks}
use Rattle.cd_file.proofs.block_parameters.BlockParameters.get.Goals as goal

pub returns-clause-least : goal.returns-clause-least
returns-clause-least c = least_ticks (λ p. p.now) c.self.inside.entries c.self.invariant c.args.number _ c.entry_at.ensures

pub returns-clause-most : goal.returns-clause-most
returns-clause-most c = most_ticks (λ p. p.now) c.self.inside.entries c.self.invariant c.args.number _ c.entry_at.ensures
