use Rattle.std.proofs.Common.{ℕ, ◌-◌, ◌≤◌, Some, length, take}
use Rattle.cd_pcap.specs.Reading.{AreWhole}
use Rattle.cd_pcap.proofs.record.whole_records.Given as goal

abbrev pub invariant-records : goal.invariant-records
invariant-records l = record {
  within : l.size ≤ length l.bytes;
  whole : (link : ℕ) → AreWhole l.form (Some link) l.at (take l.size l.bytes);
}

abbrev pub decreases-records : goal.decreases-records
decreases-records l = length l.bytes - l.size
