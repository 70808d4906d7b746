use Rattle.std.proofs.Common.{◌-◌, length}
use Rattle.cd_name.proofs.SizeSteps.{GoesOn}
use Rattle.cd_name.proofs.name.name_size.Given as goal

abbrev pub invariant-labels : goal.invariant-labels
invariant-labels l = GoesOn l.bytes l.here

abbrev pub decreases-labels : goal.decreases-labels
decreases-labels l = length l.bytes - l.here
