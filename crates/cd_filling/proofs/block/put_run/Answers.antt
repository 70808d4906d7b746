-- the earliest time is early for each record
use Rattle.std.proofs.Common.{map, sym, ◌∙◌}
use Rattle.cd_hints.specs.Records.{record_parts}
use Rattle.cd_record.proofs.Keeping.{earliest_is_early}
use Rattle.cd_filling.proofs.block.put_run.Goals as goal

pub put_timed-requires-clause-early : goal.put_timed-requires-clause-early
put_timed-requires-clause-early c =
    earliest_is_early c.args.settings.now.params.ticks c.in-Some.earliest (map record_parts c.args.recs.items) (sym c.in-Some.is ∙ c.requires.earliest)
