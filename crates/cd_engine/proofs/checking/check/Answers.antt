use Rattle.std.proofs.Common.{Ok, Err}
use Rattle.cd_engine.proofs.Checked.{checks_driven, told_driven, unread, unread_told}
use Rattle.cd_engine.proofs.checking.check.Goals as goal

pub returns-in-Err-clause-checks : goal.returns-in-Err-clause-checks
returns-in-Err-clause-checks g c = rw c.no_counts.ensures (unread c.args.max_input (g.S.Source.means c.args.src.now))

pub returns-in-Err-clause-told : goal.returns-in-Err-clause-told
returns-in-Err-clause-told g c = rw c.no_counts.ensures (unread_told c.args.max_input (g.S.Source.means c.args.src.now))

pub returns-in-Ok-drive-clause-checks : goal.returns-in-Ok-drive-clause-checks
returns-in-Ok-drive-clause-checks g c =
    rw c.ended_of.ensures
    (checks_driven c.counts_are_those_of_the_blocks.ensures c.args.max_input c.requires (g.S.Source.means c.args.src.now) (g.S.Source.means c.drive.new.src) _ _ (Ok c.in-Ok-drive.field-0)
    c.in-Ok-drive.ensures.drives)

pub returns-in-Ok-drive-clause-told : goal.returns-in-Ok-drive-clause-told
returns-in-Ok-drive-clause-told g c =
    rw c.ended_of.ensures
    (told_driven c.counts_are_those_of_the_blocks.ensures c.args.max_input c.requires (g.S.Source.means c.args.src.now) (g.S.Source.means c.drive.new.src) _ _ (Ok c.in-Ok-drive.field-0)
    c.in-Ok-drive.ensures.told)

pub returns-in-Err-drive-clause-checks : goal.returns-in-Err-drive-clause-checks
returns-in-Err-drive-clause-checks g c =
    rw c.no_counts-in-Err-drive.ensures
    (checks_driven c.counts_are_those_of_the_blocks.ensures c.args.max_input c.requires (g.S.Source.means c.args.src.now) (g.S.Source.means c.drive.new.src) _ _ (Err c.in-Err-drive.field-0)
    c.in-Err-drive.ensures.drives)

pub returns-in-Err-drive-clause-told : goal.returns-in-Err-drive-clause-told
returns-in-Err-drive-clause-told g c =
    rw c.no_counts-in-Err-drive.ensures
    (told_driven c.counts_are_those_of_the_blocks.ensures c.args.max_input c.requires (g.S.Source.means c.args.src.now) (g.S.Source.means c.drive.new.src) _ _ (Err c.in-Err-drive.field-0)
    c.in-Err-drive.ensures.told)
