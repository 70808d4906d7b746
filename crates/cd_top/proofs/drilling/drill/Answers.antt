use Rattle.cd_engine.specs.declared.ended.Ended.TheVariants as ended
use Rattle.cd_top.specs.declared.status.Status.TheVariants as status
use Rattle.cd_top.proofs.Drilled.{summary_written, summary_begun}
use Rattle.cd_top.proofs.Mapping.{memory_stops, write_stops}
use Rattle.cd_top.proofs.Reporting.{told_front, unsaid, outranks_stopped}
use Rattle.cd_top.proofs.Unread.{prefix_none, writes_none}
use Rattle.cd_top.proofs.drilling.drill.Goals as goal

pub returns-in-Err-clause-summary : goal.returns-in-Err-clause-summary
returns-in-Err-clause-summary g c = λ text is. writes_none (g.K.Sink.means c.args.out.now) text

pub returns-in-Err-clause-tells : goal.returns-in-Err-clause-tells
returns-in-Err-clause-tells g c = unsaid _ _ _

pub returns-in-Ok-write-clause-summary : goal.returns-in-Ok-write-clause-summary
returns-in-Ok-write-clause-summary g c = λ text is.
    summary_written c.args.settings.now (g.K.Sink.means c.args.out.now) (g.K.Sink.means c.write.new.self) _ _ c.in-Ok.text.bytes.items text
    c.as_bytes.ensures.value c.in-Ok.ensures c.in-Ok-write.ensures.bytes c.tell_drill.ensures.tells.ends is

pub returns-in-Err-Failed-clause-summary : goal.returns-in-Err-Failed-clause-summary
returns-in-Err-Failed-clause-summary g c = λ text is.
    summary_begun c.args.settings.now (g.K.Sink.means c.args.out.now) (g.K.Sink.means c.write.new.self) ended.WriteFault _ c.in-Ok.text.bytes.items text tt
    c.as_bytes.ensures.value c.in-Ok.ensures c.in-Err-Failed.ensures.bytes is

pub returns-in-Err-Failed-clause-tells : goal.returns-in-Err-Failed-clause-tells
returns-in-Err-Failed-clause-tells g c =
    let report = g.E.Sink.means c.args.report.now in
    told_front report report status.WriteFault status.Done _ (prefix_none report.contents _) write_stops

pub returns-in-Err-Failed-clause-outranks_out : goal.returns-in-Err-Failed-clause-outranks_out
returns-in-Err-Failed-clause-outranks_out g c = outranks_stopped _ _ status.WriteFault write_stops

pub returns-clause-summary : goal.returns-clause-summary
returns-clause-summary g c = λ text is.
    summary_begun c.args.settings.now (g.K.Sink.means c.args.out.now) (g.K.Sink.means c.write.new.self) ended.NoMemory _ c.in-Ok.text.bytes.items text tt
    c.as_bytes.ensures.value c.in-Ok.ensures c.in-Err-NoMemory.ensures.bytes is

pub returns-clause-tells : goal.returns-clause-tells
returns-clause-tells g c = unsaid _ _ _

pub returns-clause-outranks_out : goal.returns-clause-outranks_out
returns-clause-outranks_out g c = outranks_stopped _ _ status.NoMemory memory_stops
