-- What is seen of the item is what its head tells.
use Rattle.cd_file.proofs.HeadsSeen.{items_seen}
use Rattle.cd_file.proofs.reading.heads.array_at.Goals as goal

pub returns : goal.returns
returns c = λ depth item end is.
    rw c.items_of.ensures
    (items_seen c.head_at-head.result.next depth c.args.bytes.now item end c.head_at-head.result.kind c.head_at-head.result.argument (c.head_at-head.ensures depth item end is))
