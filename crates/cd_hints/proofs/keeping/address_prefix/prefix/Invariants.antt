use Rattle.std.proofs.Common.{◌≡◌, ◌++◌, take, drop}
use Rattle.cd_hints.specs.Prefix.{first_bits}
use Rattle.cd_hints.proofs.keeping.address_prefix.prefix.Given as goal

-- the bytes that were cut, before the first bits of those that are left, are the first bits of all
abbrev pub invariant-loop-octet : goal.invariant-loop-octet
invariant-loop-octet l = take l.octet-index l.octet-items ++ first_bits l.left (drop l.octet-index l.octet-items) ≡ first_bits l.kept l.addr.octets
