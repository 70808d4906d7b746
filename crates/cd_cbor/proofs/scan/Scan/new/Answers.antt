use Rattle.std.proofs.Common.{[], refl, arith}
use Rattle.cd_cbor.proofs.Marks.{marked_new}
use Rattle.cd_cbor.proofs.scan.Scan.new.Goals as goal

pub returns-clause-history : goal.returns-clause-history
returns-clause-history c = marked_new _ 0 [] refl c.new.ensures refl (omega arith)
