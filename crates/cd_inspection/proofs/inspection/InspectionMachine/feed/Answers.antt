-- What is refused stays refused, whatever is fed.
use Rattle.std.proofs.Common.{◌∙◌, ap, sym}
use Rattle.cd_file.proofs.FileGrows.{files_grow}
use Rattle.cd_inspection.specs.Standing.{InspectionSeen}
use Rattle.cd_inspection.proofs.Ending.{some_of, refused_again, stands_refused}
use Rattle.cd_inspection.proofs.inspection.InspectionMachine.feed.Goals as goal

pub returns-then-is_some-clause-history : goal.returns-then-is_some-clause-history
returns-then-is_some-clause-history g c = λ fed cleared h.
    let bad = some_of c.self.inside.refused (sym c.is_some.ensures ∙ c.if-is_some.true) in
    let is = sym (ap (λ (s : InspectionSeen _). s.refused) c.self.view_is) ∙ bad.1 in
    stands_refused g.I.Inspector.rendering c.args.self.now fed cleared h c.args.chunk.now files_grow bad.0 is

pub returns-then-is_some-clause-refusal : goal.returns-then-is_some-clause-refusal
returns-then-is_some-clause-refusal g c = λ fed cleared h.
    let bad = some_of c.self.inside.refused (sym c.is_some.ensures ∙ c.if-is_some.true) in
    let same = ap (λ (s : InspectionSeen _). s.refused) c.self.view_is in
    same ∙ refused_again g.I.Inspector.rendering c.args.self.now fed cleared h c.args.chunk.now files_grow bad.0 (sym same ∙ bad.1)
