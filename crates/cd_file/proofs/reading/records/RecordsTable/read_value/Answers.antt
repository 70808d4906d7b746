-- Each key is read by its line.
use Rattle.std.proofs.Common.{◌≡◌, None, true, false, refl, rules, tests}
use Rattle.cd_file.specs.Kinds.{unsigned}
use Rattle.cd_file.specs.MapReading.{line_of}
use Rattle.cd_file.specs.ReadTables.{rr_table}
use Rattle.cd_file.proofs.LinesRead.{no_line}
use Rattle.cd_file.proofs.FieldsPut.{puts, puts_some}
use Rattle.cd_file.proofs.reading.records.RecordsTable.read_value.Goals as goal

pub returns-in-0 : goal.returns-in-0
unfolding line_of
returns-in-0 c =
    puts rr_table c.args.key c.args.depth c.args.at c.args.bytes.now c.args.fields.now c.put.result unsigned (λ n r. record r { name = n }) true (rw c.in-0.is refl)
    c.unsigned.result c.put.new.place (c.unsigned.ensures c.args.depth) c.put.ensures

pub returns-in-1 : goal.returns-in-1
unfolding line_of
returns-in-1 c =
    puts rr_table c.args.key c.args.depth c.args.at c.args.bytes.now c.args.fields.now c.put-in-1.result unsigned (λ n r. record r { classtype = n }) true (rw c.in-1.is refl)
    c.unsigned-in-1.result c.put-in-1.new.place (c.unsigned-in-1.ensures c.args.depth) c.put-in-1.ensures

pub returns-in-2 : goal.returns-in-2
unfolding line_of
returns-in-2 c =
    puts_some rr_table c.args.key c.args.depth c.args.at c.args.bytes.now c.args.fields.now c.put_some.result unsigned (λ n r. record r { ttl = n }) false (rw c.in-2.is refl)
    c.unsigned-in-2.result c.put_some.new.place (c.unsigned-in-2.ensures c.args.depth) c.put_some.ensures

pub returns-in-3 : goal.returns-in-3
unfolding line_of
returns-in-3 c =
    puts_some rr_table c.args.key c.args.depth c.args.at c.args.bytes.now c.args.fields.now c.put_some-in-3.result unsigned (λ n r. record r { rdata = n }) false (rw c.in-3.is refl)
    c.unsigned-in-3.result c.put_some-in-3.new.place (c.unsigned-in-3.ensures c.args.depth) c.put_some-in-3.ensures

pub returns-in_default : goal.returns-in_default
unfolding line_of
returns-in_default c =
    let none : line_of rr_table c.args.key ≡ None = search (tests, rules) in
    no_line rr_table c.args.key c.args.fields.now c.args.depth c.args.bytes.now c.args.at c.passed_over.result none c.passed_over.ensures
