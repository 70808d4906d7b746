-- What the opcodes that are left give from here is what all give.
use Rattle.std.proofs.Common.{◌≡◌, ◌<◌, drop}
use Rattle.std.specs.Prelude.{All}
use Rattle.cd_file.specs.ReadHead as head
use Rattle.cd_file.proofs.reading.storage.opcode_bits.Given as goal

abbrev pub invariant-listed : goal.invariant-listed
invariant-listed l = All (λ n. n < 16) l.listed → head.opcode_bits 0 l.listed ≡ head.opcode_bits l.opcodes (drop l.opcode-index l.listed)
