use Rattle.std.proofs.Common.{◌≡◌, ◌≤◌, ◌*◌, take}
use Rattle.std.specs.List.{sum_by}
use Rattle.cd_message.specs.Weights.{record_weight}
use Rattle.cd_message.proofs.weighing.records_weight.Given as goal

abbrev pub invariant-records : goal.invariant-records
invariant-records l = record { total : l.total ≡ sum_by record_weight (take l.record-index l.records); bound : l.total ≤ 65854 * l.record-index }
