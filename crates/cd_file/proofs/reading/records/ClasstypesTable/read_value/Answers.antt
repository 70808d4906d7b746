-- Each key is read by its line.
use Rattle.std.proofs.Common.{◌≡◌, None, true, refl, rules, tests}
use Rattle.cd_file.specs.Kinds.{unsigned_below}
use Rattle.cd_file.specs.MapReading.{line_of}
use Rattle.cd_file.specs.ReadTables.{classtype_table}
use Rattle.cd_file.proofs.LinesRead.{no_line}
use Rattle.cd_file.proofs.FieldsPut.{puts}
use Rattle.cd_file.proofs.reading.records.ClasstypesTable.read_value.Goals as goal

pub returns-in-0 : goal.returns-in-0
unfolding line_of
returns-in-0 c =
    puts classtype_table c.args.key c.args.depth c.args.at c.args.bytes.now c.args.fields.now c.put.result (unsigned_below 0x1_0000) (λ n t. (n, t.1)) true (rw c.in-0.is refl)
    c.word.result c.put.new.place (c.word.ensures c.args.depth) c.put.ensures

pub returns-in-1 : goal.returns-in-1
unfolding line_of
returns-in-1 c =
    puts classtype_table c.args.key c.args.depth c.args.at c.args.bytes.now c.args.fields.now c.put-in-1.result (unsigned_below 0x1_0000) (λ n t. (t.0, n)) true (rw c.in-1.is refl)
    c.word-in-1.result c.put-in-1.new.place (c.word-in-1.ensures c.args.depth) c.put-in-1.ensures

pub returns-in_default : goal.returns-in_default
unfolding line_of
returns-in_default c =
    let none : line_of classtype_table c.args.key ≡ None = search (tests, rules) in
    no_line classtype_table c.args.key c.args.fields.now c.args.depth c.args.bytes.now c.args.at c.passed_over.result none c.passed_over.ensures
