use Rattle.std.proofs.Common.{◌≡◌, take}
use Rattle.cd_rebuild.specs.Messages.{records_of}
use Rattle.cd_rebuild.proofs.records.records_of.Given as goal

-- the list so far is what stands in the message of the records so far
abbrev pub invariant-records : goal.invariant-records
invariant-records l = l.list.items ≡ records_of l.opt_apart (take l.kept-index l.records)
