use Rattle.cd_top.specs.declared.status.Status.TheVariants as status
use Rattle.cd_top.proofs.Reporting.{unsaid}
use Rattle.cd_top.proofs.report.refuse.Goals as goal

pub returns-in-Err-clause-refuses : goal.returns-in-Err-clause-refuses
returns-in-Err-clause-refuses g c = unsaid _ status.Usage _
