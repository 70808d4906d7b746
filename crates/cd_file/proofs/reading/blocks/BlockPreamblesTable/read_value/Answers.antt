-- Each key is read by its line.
use Rattle.std.proofs.Common.{◌≡◌, None, false, refl, rules, tests}
use Rattle.cd_file.specs.Kinds.{stamp, unsigned}
use Rattle.cd_file.specs.MapReading.{line_of}
use Rattle.cd_file.specs.ReadBlock.{block_preamble_table}
use Rattle.cd_file.proofs.LinesRead.{no_line}
use Rattle.cd_file.proofs.FieldsPut.{puts, puts_some}
use Rattle.cd_file.proofs.reading.blocks.BlockPreamblesTable.read_value.Goals as goal

pub returns-in-0 : goal.returns-in-0
unfolding line_of
returns-in-0 c =
    puts_some block_preamble_table c.args.key c.args.depth c.args.at c.args.bytes.now c.args.block.now c.put_some.result stamp (λ n b. record b { earliest = n }) false (rw c.in-0.is refl)
    c.stamp.result c.put_some.new.place c.stamp.ensures c.put_some.ensures

pub returns-in-1 : goal.returns-in-1
unfolding line_of
returns-in-1 c =
    puts block_preamble_table c.args.key c.args.depth c.args.at c.args.bytes.now c.args.block.now c.put.result unsigned (λ n b. record b { params = n }) false (rw c.in-1.is refl)
    c.unsigned.result c.put.new.place (c.unsigned.ensures c.args.depth) c.put.ensures

pub returns-in_default : goal.returns-in_default
unfolding line_of
returns-in_default c =
    let none : line_of block_preamble_table c.args.key ≡ None = search (tests, rules) in
    no_line block_preamble_table c.args.key c.args.block.now c.args.depth c.args.bytes.now c.args.at c.passed_over.result none c.passed_over.ensures
