-- the opcodes so far
use Rattle.std.proofs.Common.{◌≡◌, ◌≤◌, ◌++◌, map}
use Rattle.cd_cbor.specs.Items.{unsigned}
use Rattle.cd_cbor.specs.Spelling.{spelling_all}
use Rattle.cd_file.specs.Head.{opcodes_below}
use Rattle.cd_file.proofs.opcodes.push_each_opcode.Given as goal

abbrev pub invariant-opcodes : goal.invariant-opcodes
invariant-opcodes l = record {
  exact : l.out ≡ l.initial.out ++ spelling_all (map unsigned (opcodes_below l.opcode l.opcodes));
  within : l.opcode ≤ 16;
}
