use Rattle.cd_record.proofs.OneRecord.{one_is_admissible}
use Rattle.cd_record.proofs.laws.one_record_is_admissible.Goals as goal

pub returns : goal.returns
returns c = one_is_admissible
