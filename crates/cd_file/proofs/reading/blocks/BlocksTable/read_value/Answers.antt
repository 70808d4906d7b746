-- Each key is read by its line.
use Rattle.std.proofs.Common.{◌≡◌, None, true, false, refl, rules, tests}
use Rattle.cd_file.specs.Kinds.{array_of}
use Rattle.cd_file.specs.MapReading.{line_of, map_from}
use Rattle.cd_file.specs.ReadTables.{tables_table}
use Rattle.cd_file.specs.ReadBlock.{block_preamble_table, block_table, item_table, malformed_table, no_item, no_malformed, no_statistics, statistics_table}
use Rattle.cd_file.proofs.LinesRead.{no_line}
use Rattle.cd_file.proofs.FieldsPut.{puts, puts_some, puts_within}
use Rattle.cd_file.proofs.reading.blocks.BlocksTable.read_value.Goals as goal

pub returns-in-0 : goal.returns-in-0
unfolding line_of
returns-in-0 c =
    puts_within block_table c.args.key c.args.depth c.args.at c.args.bytes.now c.args.block.now c.read_entries.result block_preamble_table true (rw c.in-0.is refl) c.read_entries.new.fields c.read_entries.ensures

pub returns-in-1 : goal.returns-in-1
unfolding line_of
returns-in-1 c =
    puts_some block_table c.args.key c.args.depth c.args.at c.args.bytes.now c.args.block.now c.put_some.result (map_from statistics_table no_statistics) (λ n b. record b { stats = n }) false (rw c.in-1.is refl)
    c.map_of.result c.put_some.new.place c.map_of.ensures c.put_some.ensures

pub returns-in-2 : goal.returns-in-2
unfolding line_of
returns-in-2 c =
    puts_within block_table c.args.key c.args.depth c.args.at c.args.bytes.now c.args.block.now c.read_entries-in-2.result tables_table false (rw c.in-2.is refl) c.read_entries-in-2.new.fields c.read_entries-in-2.ensures

pub returns-in-3 : goal.returns-in-3
unfolding line_of
returns-in-3 c =
    puts block_table c.args.key c.args.depth c.args.at c.args.bytes.now c.args.block.now c.put.result (array_of (map_from item_table no_item)) (λ n b. record b { items = n }) false (rw c.in-3.is refl)
    c.array_of.result c.put.new.place c.array_of.ensures c.put.ensures

pub returns-in-5 : goal.returns-in-5
unfolding line_of
returns-in-5 c =
    puts block_table c.args.key c.args.depth c.args.at c.args.bytes.now c.args.block.now c.put-in-5.result (array_of (map_from malformed_table no_malformed)) (λ n b. record b { malformed = n }) false (rw c.in-5.is refl)
    c.array_of-in-5.result c.put-in-5.new.place c.array_of-in-5.ensures c.put-in-5.ensures

pub returns-in_default : goal.returns-in_default
unfolding line_of
returns-in_default c =
    let none : line_of block_table c.args.key ≡ None = search (tests, rules) in
    no_line block_table c.args.key c.args.block.now c.args.depth c.args.bytes.now c.args.at c.passed_over.result none c.passed_over.ensures
