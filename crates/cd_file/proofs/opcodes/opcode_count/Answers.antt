use Rattle.std.proofs.Common.{sym, ap, length, arith}
use Rattle.cd_file.proofs.Numbers.{no_opcode_below, opcodes_count_more}
use Rattle.cd_file.proofs.opcodes.opcode_count.Goals as goal

pub opcodes-init : goal.opcodes-init
opcodes-init c = record { exact = sym (ap length (no_opcode_below c.args.opcodes)); few = omega arith; within = omega arith }

pub opcodes-preserved : goal.opcodes-preserved
opcodes-preserved c = record {
  exact = omega (arith, c.opcodes.invariant.exact, c.listed_count-count.ensures.exact, opcodes_count_more c.opcodes.opcode c.args.opcodes);
  few = omega (arith, c.opcodes.invariant.few, c.listed_count-count.ensures.few);
  within = omega arith;
}
