-- Each key is read by its line.
use Rattle.std.proofs.Common.{◌≡◌, None, false, refl, rules, tests}
use Rattle.cd_file.specs.Kinds.{array_of, byte_string, short_byte_string, unsigned}
use Rattle.cd_file.specs.MapReading.{line_of, map_from}
use Rattle.cd_file.specs.ReadTables.{classtype_table, malformed_data_table, no_data, no_question, no_rr, no_signature, question_table, rr_table, signature_table, tables_table}
use Rattle.cd_file.proofs.LinesRead.{no_line}
use Rattle.cd_file.proofs.FieldsPut.{puts_read}
use Rattle.cd_file.proofs.reading.block_tables.BlockTablesTable.read_value.Goals as goal

pub returns-in-0 : goal.returns-in-0
unfolding line_of
returns-in-0 c =
    puts_read tables_table c.args.key c.args.depth c.args.at c.args.bytes.now c.args.block.now c.read_table.result (array_of (short_byte_string 16)) (λ n b. record b { ip_address = n }) false (rw c.in-0.is refl) c.read_table.new.table c.read_table.ensures

pub returns-in-1 : goal.returns-in-1
unfolding line_of
returns-in-1 c =
    puts_read tables_table c.args.key c.args.depth c.args.at c.args.bytes.now c.args.block.now c.read_table-in-1.result (array_of (map_from classtype_table (0, 0))) (λ n b. record b { classtype = n }) false (rw c.in-1.is refl) c.read_table-in-1.new.table c.read_table-in-1.ensures

pub returns-in-2 : goal.returns-in-2
unfolding line_of
returns-in-2 c =
    puts_read tables_table c.args.key c.args.depth c.args.at c.args.bytes.now c.args.block.now c.read_table-in-2.result (array_of byte_string) (λ n b. record b { name_rdata = n }) false (rw c.in-2.is refl) c.read_table-in-2.new.table c.read_table-in-2.ensures

pub returns-in-3 : goal.returns-in-3
unfolding line_of
returns-in-3 c =
    puts_read tables_table c.args.key c.args.depth c.args.at c.args.bytes.now c.args.block.now c.read_table-in-3.result (array_of (map_from signature_table no_signature)) (λ n b. record b { qr_sig = n }) false (rw c.in-3.is refl) c.read_table-in-3.new.table c.read_table-in-3.ensures

pub returns-in-4 : goal.returns-in-4
unfolding line_of
returns-in-4 c =
    puts_read tables_table c.args.key c.args.depth c.args.at c.args.bytes.now c.args.block.now c.read_table-in-4.result (array_of (array_of unsigned)) (λ n b. record b { qlist = n }) false (rw c.in-4.is refl) c.read_table-in-4.new.table c.read_table-in-4.ensures

pub returns-in-5 : goal.returns-in-5
unfolding line_of
returns-in-5 c =
    puts_read tables_table c.args.key c.args.depth c.args.at c.args.bytes.now c.args.block.now c.read_table-in-5.result (array_of (map_from question_table no_question)) (λ n b. record b { qrr = n }) false (rw c.in-5.is refl) c.read_table-in-5.new.table c.read_table-in-5.ensures

pub returns-in-6 : goal.returns-in-6
unfolding line_of
returns-in-6 c =
    puts_read tables_table c.args.key c.args.depth c.args.at c.args.bytes.now c.args.block.now c.read_table-in-6.result (array_of (array_of unsigned)) (λ n b. record b { rrlist = n }) false (rw c.in-6.is refl) c.read_table-in-6.new.table c.read_table-in-6.ensures

pub returns-in-7 : goal.returns-in-7
unfolding line_of
returns-in-7 c =
    puts_read tables_table c.args.key c.args.depth c.args.at c.args.bytes.now c.args.block.now c.read_table-in-7.result (array_of (map_from rr_table no_rr)) (λ n b. record b { rr = n }) false (rw c.in-7.is refl) c.read_table-in-7.new.table c.read_table-in-7.ensures

pub returns-in-8 : goal.returns-in-8
unfolding line_of
returns-in-8 c =
    puts_read tables_table c.args.key c.args.depth c.args.at c.args.bytes.now c.args.block.now c.read_table-in-8.result (array_of (map_from malformed_data_table no_data)) (λ n b. record b { malformed_message_data = n }) false (rw c.in-8.is refl) c.read_table-in-8.new.table c.read_table-in-8.ensures

pub returns-in_default : goal.returns-in_default
unfolding line_of
returns-in_default c =
    let none : line_of tables_table c.args.key ≡ None = search (tests, rules) in
    no_line tables_table c.args.key c.args.block.now c.args.depth c.args.bytes.now c.args.at c.passed_over.result none c.passed_over.ensures
