-- What is seen of the item is what its head tells.
use Rattle.cd_file.proofs.HeadsSeen.{number_seen}
use Rattle.cd_file.proofs.reading.heads.number_at.Goals as goal

pub returns : goal.returns
returns c = λ depth item end is.
    rw c.number_of.ensures
    (number_seen c.head_at-head.result.next depth c.args.bytes.now item end c.head_at-head.result.kind c.head_at-head.result.argument (c.head_at-head.ensures depth item end is))
