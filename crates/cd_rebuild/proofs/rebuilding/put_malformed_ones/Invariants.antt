use Rattle.std.proofs.Common.{◌≡◌, ◌++◌, take}
use Rattle.std.specs.List.{flat_map}
use Rattle.cd_rebuild.specs.Datagrams.{malformed_sendings}
use Rattle.cd_rebuild.proofs.rebuilding.put_malformed_ones.Given as goal

-- what was sent before, and what is sent of the malformed messages so far
abbrev pub invariant-malformed : goal.invariant-malformed
invariant-malformed l =
    l.sendings.items ≡ l.fn.sendings.items ++ flat_map (malformed_sendings l.ticks l.earliest) (take l.message-index l.malformed)
