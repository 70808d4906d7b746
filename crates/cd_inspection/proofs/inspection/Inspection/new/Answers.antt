use Rattle.std.proofs.Common.{refl, ap, ◌∙◌, ◌++◌}
use Rattle.cd_inspection.proofs.Beginning.{stands_at_first}
use Rattle.cd_inspection.proofs.inspection.Inspection.new.Goals as goal

pub returns-clause-stands : goal.returns-clause-stands
returns-clause-stands g c =
    let e = c.new-reader.ensures in
    stands_at_first g.I.Inspector.rendering _ refl refl refl refl c.no_counts-counts.ensures (c.in_ok-begin.ensures ∙ ap (λ t. t ++ g.I.Inspector.rendering.begins) c.new-output.ensures) e.history e.unrefused e.params
