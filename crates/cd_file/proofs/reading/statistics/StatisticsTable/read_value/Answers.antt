-- Each key is read by its line.
use Rattle.std.proofs.Common.{◌≡◌, None, false, refl, rules, tests}
use Rattle.cd_file.specs.Kinds.{unsigned}
use Rattle.cd_file.specs.MapReading.{line_of}
use Rattle.cd_file.specs.ReadBlock.{statistics_table}
use Rattle.cd_file.proofs.LinesRead.{no_line}
use Rattle.cd_file.proofs.FieldsPut.{puts}
use Rattle.cd_file.proofs.reading.statistics.StatisticsTable.read_value.Goals as goal

pub returns-in-0 : goal.returns-in-0
unfolding line_of
returns-in-0 c =
    puts statistics_table c.args.key c.args.depth c.args.at c.args.bytes.now c.args.stats.now c.put.result unsigned (λ n s. record s { processed = n }) false (rw c.in-0.is refl)
    c.unsigned.result c.put.new.place (c.unsigned.ensures c.args.depth) c.put.ensures

pub returns-in-1 : goal.returns-in-1
unfolding line_of
returns-in-1 c =
    puts statistics_table c.args.key c.args.depth c.args.at c.args.bytes.now c.args.stats.now c.put-in-1.result unsigned (λ n s. record s { items = n }) false (rw c.in-1.is refl)
    c.unsigned-in-1.result c.put-in-1.new.place (c.unsigned-in-1.ensures c.args.depth) c.put-in-1.ensures

pub returns-in-2 : goal.returns-in-2
unfolding line_of
returns-in-2 c =
    puts statistics_table c.args.key c.args.depth c.args.at c.args.bytes.now c.args.stats.now c.put-in-2.result unsigned (λ n s. record s { unmatched_queries = n }) false (rw c.in-2.is refl)
    c.unsigned-in-2.result c.put-in-2.new.place (c.unsigned-in-2.ensures c.args.depth) c.put-in-2.ensures

pub returns-in-3 : goal.returns-in-3
unfolding line_of
returns-in-3 c =
    puts statistics_table c.args.key c.args.depth c.args.at c.args.bytes.now c.args.stats.now c.put-in-3.result unsigned (λ n s. record s { unmatched_responses = n }) false (rw c.in-3.is refl)
    c.unsigned-in-3.result c.put-in-3.new.place (c.unsigned-in-3.ensures c.args.depth) c.put-in-3.ensures

pub returns-in-4 : goal.returns-in-4
unfolding line_of
returns-in-4 c =
    puts statistics_table c.args.key c.args.depth c.args.at c.args.bytes.now c.args.stats.now c.put-in-4.result unsigned (λ n s. record s { discarded = n }) false (rw c.in-4.is refl)
    c.unsigned-in-4.result c.put-in-4.new.place (c.unsigned-in-4.ensures c.args.depth) c.put-in-4.ensures

pub returns-in-5 : goal.returns-in-5
unfolding line_of
returns-in-5 c =
    puts statistics_table c.args.key c.args.depth c.args.at c.args.bytes.now c.args.stats.now c.put-in-5.result unsigned (λ n s. record s { malformed = n }) false (rw c.in-5.is refl)
    c.unsigned-in-5.result c.put-in-5.new.place (c.unsigned-in-5.ensures c.args.depth) c.put-in-5.ensures

pub returns-in_default : goal.returns-in_default
unfolding line_of
returns-in_default c =
    let none : line_of statistics_table c.args.key ≡ None = search (tests, rules) in
    no_line statistics_table c.args.key c.args.stats.now c.args.depth c.args.bytes.now c.args.at c.passed_over.result none c.passed_over.ensures
