use Rattle.std.proofs.Common.{◌≡◌, take}
use Rattle.cd_hints.proofs.KeptAmong.{kept_among}
use Rattle.cd_hints.proofs.keeping.lists.listed_records.Given as goal

-- the list so far is what is kept of the records so far
abbrev pub invariant-records : goal.invariant-records
invariant-records l = l.list.items ≡ kept_among l.fn.keeper.rr_types l.with_opt l.hints (take l.record-index l.records)
