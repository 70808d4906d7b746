-- Each key is read by its line.
use Rattle.std.proofs.Common.{◌≡◌, None, true, refl, rules, tests}
use Rattle.cd_file.specs.Kinds.{unsigned}
use Rattle.cd_file.specs.MapReading.{line_of}
use Rattle.cd_file.specs.ReadTables.{question_table}
use Rattle.cd_file.proofs.LinesRead.{no_line}
use Rattle.cd_file.proofs.FieldsPut.{puts}
use Rattle.cd_file.proofs.reading.records.QuestionsTable.read_value.Goals as goal

pub returns-in-0 : goal.returns-in-0
unfolding line_of
returns-in-0 c =
    puts question_table c.args.key c.args.depth c.args.at c.args.bytes.now c.args.fields.now c.put.result unsigned (λ n q. record q { name = n }) true (rw c.in-0.is refl)
    c.unsigned.result c.put.new.place (c.unsigned.ensures c.args.depth) c.put.ensures

pub returns-in-1 : goal.returns-in-1
unfolding line_of
returns-in-1 c =
    puts question_table c.args.key c.args.depth c.args.at c.args.bytes.now c.args.fields.now c.put-in-1.result unsigned (λ n q. record q { classtype = n }) true (rw c.in-1.is refl)
    c.unsigned-in-1.result c.put-in-1.new.place (c.unsigned-in-1.ensures c.args.depth) c.put-in-1.ensures

pub returns-in_default : goal.returns-in_default
unfolding line_of
returns-in_default c =
    let none : line_of question_table c.args.key ≡ None = search (tests, rules) in
    no_line question_table c.args.key c.args.fields.now c.args.depth c.args.bytes.now c.args.at c.passed_over.result none c.passed_over.ensures
