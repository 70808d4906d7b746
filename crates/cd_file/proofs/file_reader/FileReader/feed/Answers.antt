use Rattle.std.proofs.Common.{◌≡◌, None, ap, sym, refl, ◌∙◌}
use Rattle.cd_file.specs.contracts.file_reader.FileReader.{the_view}
use Rattle.cd_file.proofs.FileHistories.{stands_held, stands_after}
use Rattle.cd_file.proofs.file_reader.FileReader.feed.Goals as goal

pub returns-in-Some-clause-history : goal.returns-in-Some-clause-history
returns-in-Some-clause-history c =
    rw (← c.self.view_is) (λ fed given h. (stands_after (the_view c.self.inside) fed given h c.args.piece.now c.in-Some._bad c.in-Some.is, refl, refl, refl))

pub returns-clause-history : goal.returns-clause-history
returns-clause-history c = λ fed given h.
    let none : c.args.self.now.refused ≡ None = sym (ap (λ r. r.refused) c.self.view_is) ∙ c.in-None.is in
    rw c.in_ok-hold.ensures.ok (stands_held c.args.self.now fed given h c.args.piece.now none, refl, refl, refl)
