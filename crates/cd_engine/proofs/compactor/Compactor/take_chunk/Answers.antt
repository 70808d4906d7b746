use Rattle.std.proofs.Common.{◌++◌}
use Rattle.cd_engine.proofs.Taking.{chunk_reads}
use Rattle.cd_engine.proofs.compactor.Compactor.take_chunk.Goals as goal

pub returns-clause-history : goal.returns-clause-history
returns-clause-history c =
    let e = c.in_ok-take_packets.ensures in
    rw (← c.self.view_is)
    (λ fed cleared h. e.history (fed ++ c.args.chunk.now) cleared
    (chunk_reads _ _ fed c.args.chunk.now cleared (λ given reads. (c.in_ok-bad.ensures.history fed given reads).0) c.in_ok-bad.ensures.place h))
