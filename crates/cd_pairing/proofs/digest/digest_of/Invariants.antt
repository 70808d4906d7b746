use Rattle.std.proofs.Common.{◌≡◌, take}
use Rattle.cd_pairing.specs.Waiting.{digest_of}
use Rattle.cd_pairing.proofs.digest.digest_of.Given as goal

abbrev pub invariant-bytes : goal.invariant-bytes
invariant-bytes l = l.digest ≡ digest_of (take l.byte-index l.bytes)
