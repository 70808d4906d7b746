use Rattle.std.proofs.lemmas.List.{take_rest}
use Rattle.cd_pcapng.proofs.Passing.{passes_more, keeps_more, order_added}
use Rattle.cd_pcapng.proofs.found.Found.read_whole.Goals as goal

pub reading-preserved : goal.reading-preserved
reading-preserved c =
    let b = rw take_rest at c.in-Block.ensures in
    rw c.in_ok-add-in-Block.ensures.ok
    (record {
      passes = passes_more c.args.self.now c.reading.self c.args.at c.args.bytes.now c.reading.size c.in-Block.more c.in-Block.content c.reading.invariant.passes b;
      keeps = keeps_more c.args.self.now c.reading.self c.in-Block.content c.reading.invariant.keeps;
      start = λ none. absurd (order_added c.reading.self c.in-Block.content b.first none);
    })
