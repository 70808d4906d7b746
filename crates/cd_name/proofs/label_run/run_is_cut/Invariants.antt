use Rattle.std.proofs.Common.{◌≡◌, ◌-◌, length}
use Rattle.cd_name.specs.Names.{run_is_cut}
use Rattle.cd_name.proofs.label_run.run_is_cut.Given as goal

abbrev pub invariant-labels : goal.invariant-labels
invariant-labels l = run_is_cut l.payload l.at ≡ run_is_cut l.payload l.here

abbrev pub decreases-labels : goal.decreases-labels
decreases-labels l = length l.payload - l.here
