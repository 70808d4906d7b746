use Rattle.std.proofs.Common.{[], arith}
use Rattle.cd_hints.specs.Records.{record_parts}
use Rattle.cd_record.proofs.Tallying.{room_of, tally_push}
use Rattle.cd_record.proofs.run.Run.of.Goals as goal

pub with-tally-requires-clause-room : goal.with-tally-requires-clause-room
with-tally-requires-clause-room c =
    rw (c.new-run.ensures.tally c.args.ticks) (room_of c.args.ticks [] (record_parts c.args.rec) (omega arith) (omega arith) (omega arith))

pub returns-in-Ok-clause-tally : goal.returns-in-Ok-clause-tally
returns-in-Ok-clause-tally c =
    rw (c.in-Ok.ensures.ok.1, c.with-tally.ensures, c.new-run.ensures.tally c.args.ticks) (tally_push c.args.ticks [] (record_parts c.args.rec))
