use Rattle.std.proofs.Common.{◌≡◌, ◌-◌}
use Rattle.cd_message.specs.Readings.{with_front}
use Rattle.cd_message.specs.Messages.{rdata_names}
use Rattle.cd_message.proofs.rdata.append_names.Given as goal

abbrev pub invariant-names : goal.invariant-names
invariant-names l = record {
  same : l.reader ≡ l.fn.reader;
  read : with_front l.bytes.items (rdata_names l.fn.reader l.end (l.count - l.counter) l.here) ≡ with_front l.fn.bytes.items (rdata_names l.fn.reader l.end l.count l.at);
}
