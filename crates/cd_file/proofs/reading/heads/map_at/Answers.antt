-- What is seen of the item is what its head tells.
use Rattle.cd_file.proofs.HeadsSeen.{pairs_seen}
use Rattle.cd_file.proofs.reading.heads.map_at.Goals as goal

pub returns : goal.returns
returns c = λ depth item end is.
    rw c.pairs_of.ensures
    (pairs_seen c.head_at-head.result.next depth c.args.bytes.now item end c.head_at-head.result.kind c.head_at-head.result.argument (c.head_at-head.ensures depth item end is))
