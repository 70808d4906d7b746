use Rattle.cd_top.specs.Reports.{inspect_report}
use Rattle.cd_top.specs.Statuses.{status_of}
use Rattle.cd_top.proofs.Mapping.{going_so}
use Rattle.cd_top.proofs.Reporting.{unsaid}
use Rattle.cd_top.proofs.report.tell_inspect.Goals as goal

pub returns-in-Err-clause-tells : goal.returns-in-Err-clause-tells
returns-in-Err-clause-tells g c =
    going_so c.args.ended _ _ c.if-has_stopped.ensures (unsaid _ (status_of c.args.ended) (inspect_report c.args.counts.now (status_of c.args.ended)))
