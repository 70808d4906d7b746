use Rattle.std.proofs.Common.{ap}
use Rattle.cd_record.specs.Cutting.{Present}
use Rattle.cd_calls.proofs.runs.push.Goals as goal

pub push-requires-clause-alone : goal.push-requires-clause-alone
push-requires-clause-alone c =
    rw (ap (λ (present : Present). present.limits) c.requires.cutter)
    (c.one_record_is_admissible.ensures c.args.settings.now _ c.requires.valid c.requires.light)
