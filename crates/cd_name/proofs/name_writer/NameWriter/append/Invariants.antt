use Rattle.std.proofs.Common.{length, ◌-◌}
use Rattle.cd_name.proofs.NameProgress.{Progress}
use Rattle.cd_name.proofs.name_writer.NameWriter.append.Given as goal

abbrev pub invariant-labels : goal.invariant-labels
invariant-labels l = Progress l.fn.self l.fn.message l.name l.here l.message l.self

abbrev pub decreases-labels : goal.decreases-labels
decreases-labels l = length l.name - l.here
