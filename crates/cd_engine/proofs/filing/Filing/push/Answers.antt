use Rattle.std.proofs.lemmas.Result.{on_ok_weaker}
use Rattle.cd_hints.specs.Records.{RecordParts, record_parts}
use Rattle.cd_record.specs.Blocks.{run_parts}
use Rattle.cd_record.specs.Cutting.{Joins, Cuts}
use Rattle.cd_engine.proofs.FilingCalls.{joined_told, cut_told}
use Rattle.cd_engine.proofs.filing.Filing.push.Goals as goal

pub returns-in-Ok-None : goal.returns-in-Ok-None
returns-in-Ok-None c =
    let i = c.self.inside in
    let r : RecordParts = record_parts c.args.rec in
    let J : Joins i.cutter r c.push.new.self = rw c.in-Ok-None.field-0-is at c.in-Ok-None.ensures.pushes in
    joined_told c.args.self.now i.settings i.cutter c.push.new.self _ _ _ c.counts_with-self-inside.result r c.self.view_is
    c.self.invariant.limits c.counts_with-self-inside.ensures J

pub returns-in-Ok-Some : goal.returns-in-Ok-Some
returns-in-Ok-Some c =
    let i = c.self.inside in
    let r : RecordParts = record_parts c.args.rec in
    let C : Cuts i.cutter r (run_parts c.in-Ok-Some.run') c.push.new.self = rw c.in-Ok-Some.field-0-is at c.in-Ok-Some.ensures.pushes in
    on_ok_weaker c.put_block.result (λ e. cut_told c.args.self.now i.settings i.cutter c.push.new.self _ _ _ c.counts_with-self-inside.result r
    (run_parts c.in-Ok-Some.run') c.put_block.new.self c.self.view_is c.self.invariant.limits c.counts_with-self-inside.ensures C e) c.put_block.ensures
