use Rattle.std.proofs.Common.{refl}
use Rattle.cd_cbor.proofs.Marks.{marked_new}
use Rattle.cd_cbor.proofs.scan.Scan.from.Goals as goal

pub returns-clause-history : goal.returns-clause-history
returns-clause-history c = λ bytes within. marked_new _ c.args.at bytes refl c.new.ensures refl within
