use Rattle.std.proofs.Common.{◌≡◌}
use Rattle.cd_record.specs.Runs.{limits_of}
use Rattle.cd_explain.proofs.runs.put_runs.Given as goal

abbrev pub invariant-partners : goal.invariant-partners
invariant-partners l = (l.cutter.limits ≡ limits_of l.settings) × (l.cutter.ticks ≡ l.settings.params.ticks)
