use Rattle.std.proofs.Common.{arith}
use Rattle.cd_cbor.proofs.Spelled.{grown}
use Rattle.cd_file.proofs.Numbers.{numbers_begun, opcodes_spelling_more}
use Rattle.cd_file.proofs.opcodes.push_each_opcode.Goals as goal

pub opcodes-init : goal.opcodes-init
opcodes-init c = record { exact = numbers_begun _ c.args.opcodes; within = omega arith }

pub opcodes-preserved : goal.opcodes-preserved
opcodes-preserved c = record {
  exact = grown _ _ _ _ _ _ c.opcodes.invariant.exact c.in_ok-push_listed.ensures
      (opcodes_spelling_more c.opcodes.opcode c.args.opcodes);
  within = omega arith;
}
