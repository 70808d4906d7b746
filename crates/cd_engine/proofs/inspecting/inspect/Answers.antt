use Rattle.std.proofs.Common.{Ok, Err, ◌∙◌, sym}
use Rattle.cd_inspection.specs.ReadCounting.{no_read_counts}
use Rattle.cd_ports.specs.declared.sink.SinkFault.TheVariants as fault
use Rattle.cd_engine.proofs.Checked.{ended_bad, are_refusals}
use Rattle.cd_engine.proofs.Inspected.{inspects_driven, told_driven, whole_accepted, unread, unread_told}
use Rattle.cd_engine.proofs.RunsEnd.{done_told, fault_told, no_write_fault}
use Rattle.cd_engine.proofs.Written.{outranks_driven, done_driven}
use Rattle.cd_engine.proofs.inspecting.inspect.Goals as goal

pub returns-in-Err-clause-inspects : goal.returns-in-Err-clause-inspects
returns-in-Err-clause-inspects g c = rw c.no_counts.ensures (unread c.args.max_input (g.S.Source.means c.args.src.now) (g.K.Sink.means c.args.out.now))

pub returns-in-Err-clause-told : goal.returns-in-Err-clause-told
returns-in-Err-clause-told g c = rw c.no_counts.ensures (unread_told c.args.max_input (g.S.Source.means c.args.src.now) (g.K.Sink.means c.args.out.now))

pub returns-in-Ok-drive-clause-inspects : goal.returns-in-Ok-drive-clause-inspects
returns-in-Ok-drive-clause-inspects g c =
    rw c.ended_of.ensures
    (inspects_driven c.captures_are_rebuilt.ensures c.rebuilt_counts_are_told.ensures c.args.max_input c.requires
    (g.S.Source.means c.args.src.now) (g.S.Source.means c.drive.new.src) (g.K.Sink.means c.args.out.now) (g.K.Sink.means c.drive.new.out)
    (Ok c.in-Ok-drive.field-0) c.in-Ok-drive.ensures.drives)

pub returns-in-Ok-drive-clause-told : goal.returns-in-Ok-drive-clause-told
returns-in-Ok-drive-clause-told g c =
    rw c.ended_of.ensures
    (told_driven c.captures_are_rebuilt.ensures c.rebuilt_counts_are_told.ensures c.args.max_input c.requires
    (g.S.Source.means c.args.src.now) (g.S.Source.means c.drive.new.src) (g.K.Sink.means c.args.out.now) (g.K.Sink.means c.drive.new.out)
    (Ok c.in-Ok-drive.field-0) c.in-Ok-drive.ensures.told)

pub returns-in-Ok-drive-clause-done : goal.returns-in-Ok-drive-clause-done
returns-in-Ok-drive-clause-done g c = λ e. c.in-Ok-drive.ensures.done (done_told ended_bad are_refusals c.in-Ok-drive.field-0.stop (sym c.ended_of.ensures ∙ e))

pub returns-in-Ok-drive-clause-read_fault : goal.returns-in-Ok-drive-clause-read_fault
returns-in-Ok-drive-clause-read_fault g c = λ e. c.in-Ok-drive.ensures.read_fault (fault_told ended_bad are_refusals c.in-Ok-drive.field-0.stop (sym c.ended_of.ensures ∙ e))

pub returns-in-Ok-drive-clause-write_fault : goal.returns-in-Ok-drive-clause-write_fault
returns-in-Ok-drive-clause-write_fault g c = λ e. absurd (no_write_fault ended_bad are_refusals c.in-Ok-drive.field-0.stop (sym c.ended_of.ensures ∙ e))

pub returns-in-Ok-drive-clause-outranks : goal.returns-in-Ok-drive-clause-outranks
returns-in-Ok-drive-clause-outranks g c =
    rw c.ended_of.ensures
    (outranks_driven ended_bad no_read_counts _ _
    (g.S.Source.means c.args.src.now) (g.S.Source.means c.drive.new.src) (g.K.Sink.means c.args.out.now) (g.K.Sink.means c.drive.new.out)
    (Ok c.in-Ok-drive.field-0) c.in-Ok-drive.ensures.drives)

pub returns-in-Ok-drive-clause-complete : goal.returns-in-Ok-drive-clause-complete
returns-in-Ok-drive-clause-complete g c =
    rw c.ended_of.ensures
    (λ bytes left whole reads writes.
    done_driven ended_bad no_read_counts (Ok c.in-Ok-drive.field-0) (c.in-Ok-drive.ensures.complete bytes left (whole_accepted c.args.max_input bytes whole) reads writes))

pub returns-in-Err-Failed-clause-inspects : goal.returns-in-Err-Failed-clause-inspects
returns-in-Err-Failed-clause-inspects g c =
    rw c.no_counts-in-Err-Failed.ensures
    (inspects_driven c.captures_are_rebuilt.ensures c.rebuilt_counts_are_told.ensures c.args.max_input c.requires
    (g.S.Source.means c.args.src.now) (g.S.Source.means c.drive.new.src) (g.K.Sink.means c.args.out.now) (g.K.Sink.means c.drive.new.out)
    (Err fault.Failed) (rw c.in-Err-Failed.field-0-is at c.in-Err-Failed.ensures.drives))

pub returns-in-Err-Failed-clause-told : goal.returns-in-Err-Failed-clause-told
returns-in-Err-Failed-clause-told g c =
    rw c.no_counts-in-Err-Failed.ensures
    (told_driven c.captures_are_rebuilt.ensures c.rebuilt_counts_are_told.ensures c.args.max_input c.requires
    (g.S.Source.means c.args.src.now) (g.S.Source.means c.drive.new.src) (g.K.Sink.means c.args.out.now) (g.K.Sink.means c.drive.new.out)
    (Err fault.Failed) (rw c.in-Err-Failed.field-0-is at c.in-Err-Failed.ensures.told))

pub returns-in-Err-NoMemory-clause-inspects : goal.returns-in-Err-NoMemory-clause-inspects
returns-in-Err-NoMemory-clause-inspects g c =
    rw c.no_counts-in-Err-NoMemory.ensures
    (inspects_driven c.captures_are_rebuilt.ensures c.rebuilt_counts_are_told.ensures c.args.max_input c.requires
    (g.S.Source.means c.args.src.now) (g.S.Source.means c.drive.new.src) (g.K.Sink.means c.args.out.now) (g.K.Sink.means c.drive.new.out)
    (Err fault.NoMemory) (rw c.in-Err-NoMemory.field-0-is at c.in-Err-NoMemory.ensures.drives))

pub returns-in-Err-NoMemory-clause-told : goal.returns-in-Err-NoMemory-clause-told
returns-in-Err-NoMemory-clause-told g c =
    rw c.no_counts-in-Err-NoMemory.ensures
    (told_driven c.captures_are_rebuilt.ensures c.rebuilt_counts_are_told.ensures c.args.max_input c.requires
    (g.S.Source.means c.args.src.now) (g.S.Source.means c.drive.new.src) (g.K.Sink.means c.args.out.now) (g.K.Sink.means c.drive.new.out)
    (Err fault.NoMemory) (rw c.in-Err-NoMemory.field-0-is at c.in-Err-NoMemory.ensures.told))
