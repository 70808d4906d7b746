use Rattle.std.proofs.Common.{◌≤◌, length, take, drop}
use Rattle.std.specs.List.{All}
use Rattle.cd_message.specs.WrittenLaws.{RecordNumbersFit}
use Rattle.cd_message.specs.Written.{each_in_turn, record_piece}
use Rattle.cd_message.proofs.InTurn.{WritesRest}
use Rattle.cd_message.proofs.writing.Writing.put_records.Given as goal

abbrev pub invariant-records : goal.invariant-records
invariant-records l =
    WritesRest (each_in_turn record_piece l.records) (each_in_turn record_piece (drop l.record-index l.records)) l.fn.self l.self × (length l.self.bytes ≤ 65535) × All RecordNumbersFit (take l.record-index l.records)
