use Rattle.cd_top.specs.declared.status.Status.TheVariants as status
use Rattle.cd_top.specs.Reports.{status_line}
use Rattle.cd_top.proofs.Reporting.{unsaid}
use Rattle.cd_top.proofs.report.tell_drill.Goals as goal

pub returns-in-Err-clause-tells : goal.returns-in-Err-clause-tells
returns-in-Err-clause-tells g c = unsaid _ status.Done (status_line status.Done)
