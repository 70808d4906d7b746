use Rattle.cd_edns.proofs.OptRecords.{with_opt_is_valid}
use Rattle.cd_edns.proofs.opt_writing.put_opt.Goals as goal

pub returns-in-Ok-clause-valid : goal.returns-in-Ok-clause-valid
returns-in-Ok-clause-valid c =
    let pushed = rw c.in_ok-record.ensures at c.in-Ok.ensures.ok in
    λ valid room short. rw pushed (with_opt_is_valid c.args.message.now c.args.opt c.requires valid room short)
