-- Each key is read by its line.
use Rattle.std.proofs.Common.{◌≡◌, None, false, refl, rules, tests}
use Rattle.cd_file.specs.Kinds.{byte_string, unsigned, unsigned_if_below}
use Rattle.cd_file.specs.MapReading.{line_of}
use Rattle.cd_file.specs.ReadTables.{malformed_data_table}
use Rattle.cd_file.proofs.LinesRead.{no_line}
use Rattle.cd_file.proofs.FieldsPut.{puts, puts_some}
use Rattle.cd_file.proofs.reading.malformed.MalformedDataTable.read_value.Goals as goal

pub returns-in-0 : goal.returns-in-0
unfolding line_of
returns-in-0 c =
    puts_some malformed_data_table c.args.key c.args.depth c.args.at c.args.bytes.now c.args.message.now c.put_some.result unsigned (λ n d. record d { server_address = n }) false (rw c.in-0.is refl)
    c.unsigned.result c.put_some.new.place (c.unsigned.ensures c.args.depth) c.put_some.ensures

pub returns-in-1 : goal.returns-in-1
unfolding line_of
returns-in-1 c =
    puts malformed_data_table c.args.key c.args.depth c.args.at c.args.bytes.now c.args.message.now c.put.result (unsigned_if_below 0x1_0000) (λ n d. record d { server_port = n }) false (rw c.in-1.is refl)
    c.word_or_none.result c.put.new.place (c.word_or_none.ensures c.args.depth) c.put.ensures

pub returns-in-2 : goal.returns-in-2
unfolding line_of
returns-in-2 c =
    puts malformed_data_table c.args.key c.args.depth c.args.at c.args.bytes.now c.args.message.now c.put-in-2.result (unsigned_if_below 0x100) (λ n d. record d { transport_flags = n }) false (rw c.in-2.is refl)
    c.byte_or_none.result c.put-in-2.new.place (c.byte_or_none.ensures c.args.depth) c.put-in-2.ensures

pub returns-in-3 : goal.returns-in-3
unfolding line_of
returns-in-3 c =
    puts_some malformed_data_table c.args.key c.args.depth c.args.at c.args.bytes.now c.args.message.now c.put_some-in-3.result byte_string (λ n d. record d { payload = n }) false (rw c.in-3.is refl)
    c.byte_string.result c.put_some-in-3.new.place (c.byte_string.ensures c.args.depth) c.put_some-in-3.ensures

pub returns-in_default : goal.returns-in_default
unfolding line_of
returns-in_default c =
    let none : line_of malformed_data_table c.args.key ≡ None = search (tests, rules) in
    no_line malformed_data_table c.args.key c.args.message.now c.args.depth c.args.bytes.now c.args.at c.passed_over.result none c.passed_over.ensures
