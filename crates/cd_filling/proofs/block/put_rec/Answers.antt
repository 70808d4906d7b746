-- an item is no malformed record
use Rattle.std.proofs.Common.{◌≡◌, ap, sym, ◌∙◌, ◌∷◌, [], ◌++◌, Bool, true, List}
use Rattle.std.specs.Prelude.{if◌then◌else◌}
use Rattle.std.proofs.lemmas.Result.{on_ok_weaker}
use Rattle.cd_hints.specs.Records as records
use Rattle.cd_hints.specs.Records.{record_parts}
use Rattle.cd_hints.specs.declared.record.Rec.{Rec}
use Rattle.cd_filling.proofs.Filled.{item_not_malformed}
use Rattle.cd_filling.proofs.block.put_rec.Goals as goal

pub returns-then-is_item-clause-malformed : goal.returns-then-is_item-clause-malformed
returns-then-is_item-clause-malformed c =
    let item : records.is_item (record_parts c.args.rec) ≡ true = sym c.is_item.ensures ∙ c.if-is_item.true in
    let longer : List Rec = c.args.malformed.now.items ++ c.args.rec ∷ [] in
    on_ok_weaker c.push_item.result (λ e. sym (ap (λ (b : Bool). if b then longer else c.args.malformed.now.items) (item_not_malformed (record_parts c.args.rec) item))) c.push_item.ensures.tables
