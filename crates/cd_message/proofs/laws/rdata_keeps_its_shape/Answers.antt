use Rattle.cd_message.proofs.RdataShapes.{rdata_keeps_shape, shaped_rdata_is_itself}
use Rattle.cd_message.proofs.laws.rdata_keeps_its_shape.Goals as goal

pub returns-clause-shape : goal.returns-clause-shape
returns-clause-shape c = rdata_keeps_shape

pub returns-clause-itself : goal.returns-clause-itself
returns-clause-itself c = shaped_rdata_is_itself
