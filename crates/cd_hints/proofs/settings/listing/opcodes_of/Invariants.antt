use Rattle.std.proofs.Common.{◌≡◌, ◌<◌, ◌^◌}
use Rattle.std.specs.List.{sum_by}
use Rattle.cd_hints.specs.Listing.{listed_below}
use Rattle.cd_hints.proofs.settings.listing.opcodes_of.Given as goal

-- the bits so far are those of the opcodes that the parts hold, and no bit from here on is set
abbrev pub invariant-loop-opcode : goal.invariant-loop-opcode
invariant-loop-opcode l = (l.bits ≡ sum_by (λ n. 2 ^ n) (listed_below l.opcode l.parts)) × (l.bits < 2 ^ l.opcode)
