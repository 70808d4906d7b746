use Rattle.std.proofs.Common.{◌-◌, ◌≤◌, length}
use Rattle.cd_message.proofs.NamesInFront.{AreLeft}
use Rattle.cd_message.proofs.rdata_writing.names_size.Given as goal

abbrev pub invariant-names : goal.invariant-names
invariant-names l = record { within : l.end ≤ length l.bytes; left : AreLeft l.count l.bytes (l.count - l.counter) l.end }
