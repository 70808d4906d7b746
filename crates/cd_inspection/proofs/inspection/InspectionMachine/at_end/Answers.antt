use Rattle.cd_inspection.proofs.Ending.{told_at_end}
use Rattle.cd_inspection.proofs.inspection.InspectionMachine.at_end.Goals as goal

pub returns : goal.returns
returns g c = λ fed cleared h none.
    let k = rw (← c.self.view_is) at h in
    rw (c.told_refusal.ensures, c.has_head.ensures, c.fed_count.ensures) (told_at_end g.I.Inspector.rendering _ fed cleared k none)
