use Rattle.cd_file.specs.Head.{opcodes_below}
use Rattle.cd_file.proofs.Maps.{entry_written}
use Rattle.cd_file.proofs.Numbers.{numbers_written}
use Rattle.cd_file.proofs.opcodes.push_opcodes.Goals as goal

pub returns : goal.returns
returns c =
    entry_written _ _ _ _ _ c.in_ok-push_unsigned.ensures.ok
    (numbers_written _ _ _ (opcodes_below 16 c.args.opcodes) _ c.in_ok-push_array_head.ensures.ok c.in_ok-push_each_opcode.ensures c.opcode_count.ensures)
