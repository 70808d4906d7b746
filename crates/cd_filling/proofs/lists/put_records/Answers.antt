-- the list of the indexes is the list of the records that are kept
use Rattle.std.proofs.Common.{ap, ◌∙◌}
use Rattle.cd_filling.proofs.ListsFilled.{hinted_put}
use Rattle.cd_filling.proofs.lists.put_records.Goals as goal

pub returns-clause-tables : goal.returns-clause-tables
returns-clause-tables c =
    let put = hinted_put c.args.keeper.now c.args.hint c.args.with_opt c.args.records.now c.hinted_records-hinted.result.now c.as_slice.result.now c.args.tables.now c.put_each_record.new.tables
    c.hinted_records-hinted.ensures (c.as_slice.ensures.value ∙ c.in_ok-put_each_record.ensures.indexes) c.in_ok-put_each_record.ensures.tables in
    c.in_ok-index.ensures.tables ∙ ap (λ a. a.tables) put

pub returns-clause-index : goal.returns-clause-index
returns-clause-index c =
    let put = hinted_put c.args.keeper.now c.args.hint c.args.with_opt c.args.records.now c.hinted_records-hinted.result.now c.as_slice.result.now c.args.tables.now c.put_each_record.new.tables
    c.hinted_records-hinted.ensures (c.as_slice.ensures.value ∙ c.in_ok-put_each_record.ensures.indexes) c.in_ok-put_each_record.ensures.tables in
    c.in_ok-index.ensures.index ∙ ap (λ a. a.value) put
