use Rattle.std.proofs.Common.{◌≡◌, ◌-◌}
use Rattle.cd_message.specs.Readings.{repeat, with_front}
use Rattle.cd_message.specs.Messages.{record_step}
use Rattle.cd_message.proofs.message_reading.records_at.Given as goal

abbrev pub invariant-records : goal.invariant-records
invariant-records l = record {
  same : l.reader ≡ l.fn.reader;
  read : with_front l.records.items (repeat (record_step l.fn.reader) (l.count - l.counter) (l.here, l.allowed)) ≡ repeat (record_step l.fn.reader) l.count (l.fn.at, l.fn.opt_allowed);
}
