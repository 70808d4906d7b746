-- the count so far
use Rattle.std.proofs.Common.{◌≡◌, ◌≤◌, length}
use Rattle.cd_file.specs.Head.{opcodes_below}
use Rattle.cd_file.proofs.opcodes.opcode_count.Given as goal

abbrev pub invariant-opcodes : goal.invariant-opcodes
invariant-opcodes l = record {
  exact : l.count ≡ length (opcodes_below l.opcode l.opcodes);
  few : l.count ≤ l.opcode;
  within : l.opcode ≤ 16;
}
