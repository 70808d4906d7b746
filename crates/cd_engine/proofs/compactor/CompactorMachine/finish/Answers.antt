use Rattle.cd_engine.proofs.Closing.{whole_output, whole_counts}
use Rattle.cd_engine.proofs.compactor.CompactorMachine.finish.Goals as goal

pub returns-clause-output : goal.returns-clause-output
returns-clause-output c = rw (← c.self.view_is) (λ fed cleared h. whole_output _ fed cleared _ c.in_ok-filed.ensures.output h)

pub returns-clause-counts : goal.returns-clause-counts
returns-clause-counts c =
    rw (← c.self.view_is, c.counts_of.ensures)
    (λ fed cleared h. whole_counts _ fed cleared c.end.result _ _ _ c.in_ok-filed.ensures.blocks c.in_ok-filed.ensures.counts
    (c.end.ensures fed h.on.given h.on.reads) c.is_cut-cut.ensures h)
