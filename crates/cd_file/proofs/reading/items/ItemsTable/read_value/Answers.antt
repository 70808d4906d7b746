-- Each key is read by its line.
use Rattle.std.proofs.Common.{◌≡◌, None, false, refl, rules, tests}
use Rattle.cd_file.specs.Kinds.{signed, unsigned, unsigned_if_below}
use Rattle.cd_file.specs.MapReading.{line_of, map_from}
use Rattle.cd_file.specs.ReadBlock.{extended_table, item_table, no_lists}
use Rattle.cd_file.proofs.LinesRead.{no_line}
use Rattle.cd_file.proofs.FieldsPut.{puts, puts_some}
use Rattle.cd_file.proofs.reading.items.ItemsTable.read_value.Goals as goal

pub returns-in-0 : goal.returns-in-0
unfolding line_of
returns-in-0 c =
    puts_some item_table c.args.key c.args.depth c.args.at c.args.bytes.now c.args.item.now c.put_some.result unsigned (λ n i. record i { time_offset = n }) false (rw c.in-0.is refl)
    c.unsigned.result c.put_some.new.place (c.unsigned.ensures c.args.depth) c.put_some.ensures

pub returns-in-1 : goal.returns-in-1
unfolding line_of
returns-in-1 c =
    puts_some item_table c.args.key c.args.depth c.args.at c.args.bytes.now c.args.item.now c.put_some-in-1.result unsigned (λ n i. record i { client_address = n }) false (rw c.in-1.is refl)
    c.unsigned-in-1.result c.put_some-in-1.new.place (c.unsigned-in-1.ensures c.args.depth) c.put_some-in-1.ensures

pub returns-in-2 : goal.returns-in-2
unfolding line_of
returns-in-2 c =
    puts item_table c.args.key c.args.depth c.args.at c.args.bytes.now c.args.item.now c.put.result (unsigned_if_below 0x1_0000) (λ n i. record i { client_port = n }) false (rw c.in-2.is refl)
    c.word_or_none.result c.put.new.place (c.word_or_none.ensures c.args.depth) c.put.ensures

pub returns-in-3 : goal.returns-in-3
unfolding line_of
returns-in-3 c =
    puts item_table c.args.key c.args.depth c.args.at c.args.bytes.now c.args.item.now c.put-in-3.result (unsigned_if_below 0x1_0000) (λ n i. record i { transaction_id = n }) false (rw c.in-3.is refl)
    c.word_or_none-in-3.result c.put-in-3.new.place (c.word_or_none-in-3.ensures c.args.depth) c.put-in-3.ensures

pub returns-in-4 : goal.returns-in-4
unfolding line_of
returns-in-4 c =
    puts_some item_table c.args.key c.args.depth c.args.at c.args.bytes.now c.args.item.now c.put_some-in-4.result unsigned (λ n i. record i { signature = n }) false (rw c.in-4.is refl)
    c.unsigned-in-4.result c.put_some-in-4.new.place (c.unsigned-in-4.ensures c.args.depth) c.put_some-in-4.ensures

pub returns-in-5 : goal.returns-in-5
unfolding line_of
returns-in-5 c =
    puts item_table c.args.key c.args.depth c.args.at c.args.bytes.now c.args.item.now c.put-in-5.result (unsigned_if_below 0x100) (λ n i. record i { client_hoplimit = n }) false (rw c.in-5.is refl)
    c.byte_or_none.result c.put-in-5.new.place (c.byte_or_none.ensures c.args.depth) c.put-in-5.ensures

pub returns-in-6 : goal.returns-in-6
unfolding line_of
returns-in-6 c =
    puts_some item_table c.args.key c.args.depth c.args.at c.args.bytes.now c.args.item.now c.put_some-in-6.result signed (λ n i. record i { response_delay = n }) false (rw c.in-6.is refl)
    c.signed.result c.put_some-in-6.new.place (c.signed.ensures c.args.depth) c.put_some-in-6.ensures

pub returns-in-7 : goal.returns-in-7
unfolding line_of
returns-in-7 c =
    puts_some item_table c.args.key c.args.depth c.args.at c.args.bytes.now c.args.item.now c.put_some-in-7.result unsigned (λ n i. record i { query_name = n }) false (rw c.in-7.is refl)
    c.unsigned-in-7.result c.put_some-in-7.new.place (c.unsigned-in-7.ensures c.args.depth) c.put_some-in-7.ensures

pub returns-in-8 : goal.returns-in-8
unfolding line_of
returns-in-8 c =
    puts_some item_table c.args.key c.args.depth c.args.at c.args.bytes.now c.args.item.now c.put_some-in-8.result unsigned (λ n i. record i { query_size = n }) false (rw c.in-8.is refl)
    c.unsigned-in-8.result c.put_some-in-8.new.place (c.unsigned-in-8.ensures c.args.depth) c.put_some-in-8.ensures

pub returns-in-9 : goal.returns-in-9
unfolding line_of
returns-in-9 c =
    puts_some item_table c.args.key c.args.depth c.args.at c.args.bytes.now c.args.item.now c.put_some-in-9.result unsigned (λ n i. record i { response_size = n }) false (rw c.in-9.is refl)
    c.unsigned-in-9.result c.put_some-in-9.new.place (c.unsigned-in-9.ensures c.args.depth) c.put_some-in-9.ensures

pub returns-in-11 : goal.returns-in-11
unfolding line_of
returns-in-11 c =
    puts item_table c.args.key c.args.depth c.args.at c.args.bytes.now c.args.item.now c.put-in-11.result (map_from extended_table no_lists) (λ n i. record i { query_extended = n }) false (rw c.in-11.is refl)
    c.map_of.result c.put-in-11.new.place c.map_of.ensures c.put-in-11.ensures

pub returns-in-12 : goal.returns-in-12
unfolding line_of
returns-in-12 c =
    puts item_table c.args.key c.args.depth c.args.at c.args.bytes.now c.args.item.now c.put-in-12.result (map_from extended_table no_lists) (λ n i. record i { response_extended = n }) false (rw c.in-12.is refl)
    c.map_of-in-12.result c.put-in-12.new.place c.map_of-in-12.ensures c.put-in-12.ensures

pub returns-in_default : goal.returns-in_default
unfolding line_of
returns-in_default c =
    let none : line_of item_table c.args.key ≡ None = search (tests, rules) in
    no_line item_table c.args.key c.args.item.now c.args.depth c.args.bytes.now c.args.at c.passed_over.result none c.passed_over.ensures
