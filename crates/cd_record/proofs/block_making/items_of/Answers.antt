use Rattle.std.proofs.Common.{rules}
use Rattle.cd_hints.specs.Records.{record_parts, HasKinds, IsItem}
use Rattle.cd_record.specs.Earliest.{IsEarly}
use Rattle.cd_record.proofs.Keeping.{record_at, early_item}
use Rattle.cd_record.proofs.block_making.items_of.Goals as goal

pub kept_item-requires-clause-kinds : goal.kept_item-requires-clause-kinds
kept_item-requires-clause-kinds c = record_at HasKinds _ _ _ c.loop-rec-test.true c.rec-item.is c.requires.kinds

pub kept_item-requires-clause-earliest : goal.kept_item-requires-clause-earliest
kept_item-requires-clause-earliest c =
    let early = record_at (IsEarly c.args.settings.now.params.ticks c.args.earliest) _ _ _ c.loop-rec-test.true c.rec-item.is c.requires.early in
    let item : IsItem (record_parts c.rec-item.result) = search rules in
    early_item _ _ _ item early
