use Rattle.std.proofs.Common.{◌≡◌, subst}
use Rattle.std.specs.Prelude.{IfOk}
use Rattle.cd_hints.proofs.KeptAmong.{kept_where_hinted}
use Rattle.cd_hints.proofs.keeping.lists.kept_records.Goals as goal

pub returns : goal.returns
returns c =
    let same = kept_where_hinted c.args.keeper.now c.args.hint c.args.with_opt c.args.records.now c.hinted_records.result.now c.hinted_records.ensures in
    subst (λ y. IfOk c.listed_records.result (λ list. list ≡ y)) same c.listed_records.ensures
