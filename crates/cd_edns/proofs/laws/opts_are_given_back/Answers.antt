use Rattle.cd_edns.proofs.OptRecords.{opts_are_given_back}
use Rattle.cd_edns.proofs.laws.opts_are_given_back.Goals as goal

pub returns : goal.returns
returns c = opts_are_given_back
