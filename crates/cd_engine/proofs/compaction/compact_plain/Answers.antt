use Rattle.std.proofs.Common.{Ok, Err, ◌∙◌, sym}
use Rattle.cd_ports.specs.declared.sink.SinkFault.TheVariants as fault
use Rattle.cd_engine.specs.Counting.{no_counts}
use Rattle.cd_engine.proofs.Compacted.{ended_bad, are_refusals, compacts_driven, told_driven, served_accepted, unread, unread_told}
use Rattle.cd_engine.proofs.RunsEnd.{done_told, fault_told, no_write_fault}
use Rattle.cd_engine.proofs.Written.{outranks_driven, done_driven}
use Rattle.cd_engine.proofs.compaction.compact_plain.Goals as goal

pub returns-in-Err-clause-compacts : goal.returns-in-Err-clause-compacts
returns-in-Err-clause-compacts g c = rw c.no_counts.ensures (unread c.args.settings.now (g.S.Source.means c.args.src.now) (g.K.Sink.means c.args.out.now))

pub returns-in-Err-clause-told : goal.returns-in-Err-clause-told
returns-in-Err-clause-told g c = rw c.no_counts.ensures (unread_told c.args.settings.now (g.S.Source.means c.args.src.now) (g.K.Sink.means c.args.out.now))

pub returns-in-Ok-drive-clause-compacts : goal.returns-in-Ok-drive-clause-compacts
returns-in-Ok-drive-clause-compacts g c =
    rw c.ended_of.ensures
    (compacts_driven c.args.settings.now c.requires
    (g.S.Source.means c.args.src.now) (g.S.Source.means c.drive.new.src) (g.K.Sink.means c.args.out.now) (g.K.Sink.means c.drive.new.out)
    (Ok c.in-Ok-drive.field-0) (rw c.in-Ok.ensures.settings at c.in-Ok-drive.ensures.drives))

pub returns-in-Ok-drive-clause-told : goal.returns-in-Ok-drive-clause-told
returns-in-Ok-drive-clause-told g c =
    rw c.ended_of.ensures
    (told_driven c.args.settings.now c.requires
    (g.S.Source.means c.args.src.now) (g.S.Source.means c.drive.new.src) (g.K.Sink.means c.args.out.now) (g.K.Sink.means c.drive.new.out)
    (Ok c.in-Ok-drive.field-0) (rw c.in-Ok.ensures.settings at c.in-Ok-drive.ensures.told))

pub returns-in-Ok-drive-clause-done : goal.returns-in-Ok-drive-clause-done
returns-in-Ok-drive-clause-done g c = λ e. c.in-Ok-drive.ensures.done (done_told ended_bad are_refusals c.in-Ok-drive.field-0.stop (sym c.ended_of.ensures ∙ e))

pub returns-in-Ok-drive-clause-read_fault : goal.returns-in-Ok-drive-clause-read_fault
returns-in-Ok-drive-clause-read_fault g c = λ e. c.in-Ok-drive.ensures.read_fault (fault_told ended_bad are_refusals c.in-Ok-drive.field-0.stop (sym c.ended_of.ensures ∙ e))

pub returns-in-Ok-drive-clause-write_fault : goal.returns-in-Ok-drive-clause-write_fault
returns-in-Ok-drive-clause-write_fault g c = λ e. absurd (no_write_fault ended_bad are_refusals c.in-Ok-drive.field-0.stop (sym c.ended_of.ensures ∙ e))

pub returns-in-Ok-drive-clause-outranks : goal.returns-in-Ok-drive-clause-outranks
returns-in-Ok-drive-clause-outranks g c =
    rw c.ended_of.ensures
    (outranks_driven ended_bad no_counts _ _
    (g.S.Source.means c.args.src.now) (g.S.Source.means c.drive.new.src) (g.K.Sink.means c.args.out.now) (g.K.Sink.means c.drive.new.out)
    (Ok c.in-Ok-drive.field-0) c.in-Ok-drive.ensures.drives)

pub returns-in-Ok-drive-clause-complete : goal.returns-in-Ok-drive-clause-complete
returns-in-Ok-drive-clause-complete g c =
    let complete = rw c.in-Ok.ensures.settings at c.in-Ok-drive.ensures.complete in
    rw c.ended_of.ensures
    (λ bytes left served reads writes.
    done_driven ended_bad no_counts (Ok c.in-Ok-drive.field-0) (complete bytes left (served_accepted c.args.settings.now bytes served) reads writes))

pub returns-in-Err-Failed-clause-compacts : goal.returns-in-Err-Failed-clause-compacts
returns-in-Err-Failed-clause-compacts g c =
    rw c.no_counts-in-Err-Failed.ensures
    (compacts_driven c.args.settings.now c.requires
    (g.S.Source.means c.args.src.now) (g.S.Source.means c.drive.new.src) (g.K.Sink.means c.args.out.now) (g.K.Sink.means c.drive.new.out)
    (Err fault.Failed) (rw (c.in-Ok.ensures.settings, c.in-Err-Failed.field-0-is) at c.in-Err-Failed.ensures.drives))

pub returns-in-Err-Failed-clause-told : goal.returns-in-Err-Failed-clause-told
returns-in-Err-Failed-clause-told g c =
    rw c.no_counts-in-Err-Failed.ensures
    (told_driven c.args.settings.now c.requires
    (g.S.Source.means c.args.src.now) (g.S.Source.means c.drive.new.src) (g.K.Sink.means c.args.out.now) (g.K.Sink.means c.drive.new.out)
    (Err fault.Failed) (rw (c.in-Ok.ensures.settings, c.in-Err-Failed.field-0-is) at c.in-Err-Failed.ensures.told))

pub returns-in-Err-NoMemory-clause-compacts : goal.returns-in-Err-NoMemory-clause-compacts
returns-in-Err-NoMemory-clause-compacts g c =
    rw c.no_counts-in-Err-NoMemory.ensures
    (compacts_driven c.args.settings.now c.requires
    (g.S.Source.means c.args.src.now) (g.S.Source.means c.drive.new.src) (g.K.Sink.means c.args.out.now) (g.K.Sink.means c.drive.new.out)
    (Err fault.NoMemory) (rw (c.in-Ok.ensures.settings, c.in-Err-NoMemory.field-0-is) at c.in-Err-NoMemory.ensures.drives))

pub returns-in-Err-NoMemory-clause-told : goal.returns-in-Err-NoMemory-clause-told
returns-in-Err-NoMemory-clause-told g c =
    rw c.no_counts-in-Err-NoMemory.ensures
    (told_driven c.args.settings.now c.requires
    (g.S.Source.means c.args.src.now) (g.S.Source.means c.drive.new.src) (g.K.Sink.means c.args.out.now) (g.K.Sink.means c.drive.new.out)
    (Err fault.NoMemory) (rw (c.in-Ok.ensures.settings, c.in-Err-NoMemory.field-0-is) at c.in-Err-NoMemory.ensures.told))

pub returns-in-Err-clause-plain : goal.returns-in-Err-clause-plain
returns-in-Err-clause-plain g c = c.plain_halves_come_back.ensures c.args.settings.now

pub returns-in-Ok-drive-clause-plain : goal.returns-in-Ok-drive-clause-plain
returns-in-Ok-drive-clause-plain g c = c.plain_halves_come_back.ensures c.args.settings.now

pub returns-in-Err-Failed-clause-plain : goal.returns-in-Err-Failed-clause-plain
returns-in-Err-Failed-clause-plain g c = c.plain_halves_come_back.ensures c.args.settings.now

pub returns-in-Err-NoMemory-clause-plain : goal.returns-in-Err-NoMemory-clause-plain
returns-in-Err-NoMemory-clause-plain g c = c.plain_halves_come_back.ensures c.args.settings.now
