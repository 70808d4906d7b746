-- Each key is read by its line.
use Rattle.std.proofs.Common.{◌≡◌, None, false, refl, rules, tests}
use Rattle.cd_file.specs.Kinds.{unsigned}
use Rattle.cd_file.specs.MapReading.{line_of}
use Rattle.cd_file.specs.ReadBlock.{extended_table}
use Rattle.cd_file.proofs.LinesRead.{no_line}
use Rattle.cd_file.proofs.FieldsPut.{puts_some}
use Rattle.cd_file.proofs.reading.items.ExtendedPartsTable.read_value.Goals as goal

pub returns-in-0 : goal.returns-in-0
unfolding line_of
returns-in-0 c =
    puts_some extended_table c.args.key c.args.depth c.args.at c.args.bytes.now c.args.lists.now c.put_some.result unsigned (λ n l. record l { question = n }) false (rw c.in-0.is refl)
    c.unsigned.result c.put_some.new.place (c.unsigned.ensures c.args.depth) c.put_some.ensures

pub returns-in-1 : goal.returns-in-1
unfolding line_of
returns-in-1 c =
    puts_some extended_table c.args.key c.args.depth c.args.at c.args.bytes.now c.args.lists.now c.put_some-in-1.result unsigned (λ n l. record l { answer = n }) false (rw c.in-1.is refl)
    c.unsigned-in-1.result c.put_some-in-1.new.place (c.unsigned-in-1.ensures c.args.depth) c.put_some-in-1.ensures

pub returns-in-2 : goal.returns-in-2
unfolding line_of
returns-in-2 c =
    puts_some extended_table c.args.key c.args.depth c.args.at c.args.bytes.now c.args.lists.now c.put_some-in-2.result unsigned (λ n l. record l { authority = n }) false (rw c.in-2.is refl)
    c.unsigned-in-2.result c.put_some-in-2.new.place (c.unsigned-in-2.ensures c.args.depth) c.put_some-in-2.ensures

pub returns-in-3 : goal.returns-in-3
unfolding line_of
returns-in-3 c =
    puts_some extended_table c.args.key c.args.depth c.args.at c.args.bytes.now c.args.lists.now c.put_some-in-3.result unsigned (λ n l. record l { additional = n }) false (rw c.in-3.is refl)
    c.unsigned-in-3.result c.put_some-in-3.new.place (c.unsigned-in-3.ensures c.args.depth) c.put_some-in-3.ensures

pub returns-in_default : goal.returns-in_default
unfolding line_of
returns-in_default c =
    let none : line_of extended_table c.args.key ≡ None = search (tests, rules) in
    no_line extended_table c.args.key c.args.lists.now c.args.depth c.args.bytes.now c.args.at c.passed_over.result none c.passed_over.ensures
