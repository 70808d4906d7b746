use Rattle.cd_explain.proofs.runs.push.Goals as goal

pub push-requires-clause-alone : goal.push-requires-clause-alone
push-requires-clause-alone c =
    rw c.requires.limits (c.one_record_is_admissible.ensures c.args.settings.now _ c.requires.valid c.requires.light)
