use Rattle.cd_message.proofs.RdataParts.{parts_fill_shapes}
use Rattle.cd_message.proofs.laws.parts_fill_shapes.Goals as goal

pub returns : goal.returns
returns c = parts_fill_shapes
