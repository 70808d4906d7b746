use Rattle.std.proofs.Common.{rules}
use Rattle.cd_hints.specs.Records.{record_parts, HasKinds, IsMalformed}
use Rattle.cd_record.specs.Earliest.{IsEarly}
use Rattle.cd_record.proofs.Keeping.{record_at, early_malformed}
use Rattle.cd_record.proofs.block_making.malformed_of.Goals as goal

pub kept_malformed-requires-clause-kinds : goal.kept_malformed-requires-clause-kinds
kept_malformed-requires-clause-kinds c = record_at HasKinds _ _ _ c.loop-rec-test.true c.rec-item.is c.requires.kinds

pub kept_malformed-requires-clause-earliest : goal.kept_malformed-requires-clause-earliest
kept_malformed-requires-clause-earliest c =
    let early = record_at (IsEarly c.args.settings.now.params.ticks c.args.earliest) _ _ _ c.loop-rec-test.true c.rec-item.is c.requires.early in
    let is : IsMalformed (record_parts c.rec-item.result) = search rules in
    early_malformed _ _ _ is early
