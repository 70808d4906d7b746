use Rattle.cd_drive.proofs.Finishing.{drives_cut, drives_unfinished, drives_whole, drives_refused, finishes_at}
use Rattle.cd_drive.proofs.Told.{drives_told}
use Rattle.cd_drive.proofs.driving.drive.Goals as goal

pub returns-in-Err-clause-drives : goal.returns-in-Err-clause-drives
returns-in-Err-clause-drives g c =
    drives_cut _ _ _ _ _ _ _ _ (g.met.M.Machine.lawful c.args.machine) c.in-Err.ensures.reads

pub returns-in-Err-finish-clause-drives : goal.returns-in-Err-finish-clause-drives
returns-in-Err-finish-clause-drives g c =
    drives_unfinished _ _ _ _ _ _ _ _ (g.met.M.Machine.lawful c.args.machine) c.in-Ok.ensures.reads

pub returns-in-Ok-write_some-clause-drives : goal.returns-in-Ok-write_some-clause-drives
returns-in-Ok-write_some-clause-drives g c =
    let e = c.in-Ok-finish.ensures in
    drives_whole _ _ _ _ _ _ _ _ _ _ _ (g.met.M.Machine.lawful c.args.machine) c.in-Ok.ensures.reads
    (finishes_at _ _ _ _ _ c.in-Ok.ensures.same (e.output, e.counts))
    (rw c.as_slice.ensures at c.in-Ok-write_some.ensures)

pub returns-in-Err-write_some-clause-drives : goal.returns-in-Err-write_some-clause-drives
returns-in-Err-write_some-clause-drives g c =
    let e = c.in-Ok-finish.ensures in
    drives_refused _ _ _ _ _ _ _ _ _ _ _ _ (g.met.M.Machine.lawful c.args.machine) c.in-Ok.ensures.reads
    (finishes_at _ _ _ _ _ c.in-Ok.ensures.same (e.output, e.counts))
    (rw c.as_slice.ensures at c.in-Err-write_some.ensures)

pub returns-in-Err-clause-told : goal.returns-in-Err-clause-told
returns-in-Err-clause-told g c = drives_told _ _ _ _ _ _ _ (returns-in-Err-clause-drives g c)

pub returns-in-Err-finish-clause-told : goal.returns-in-Err-finish-clause-told
returns-in-Err-finish-clause-told g c = drives_told _ _ _ _ _ _ _ (returns-in-Err-finish-clause-drives g c)

pub returns-in-Ok-write_some-clause-told : goal.returns-in-Ok-write_some-clause-told
returns-in-Ok-write_some-clause-told g c = drives_told _ _ _ _ _ _ _ (returns-in-Ok-write_some-clause-drives g c)

pub returns-in-Err-write_some-clause-told : goal.returns-in-Err-write_some-clause-told
returns-in-Err-write_some-clause-told g c = drives_told _ _ _ _ _ _ _ (returns-in-Err-write_some-clause-drives g c)
