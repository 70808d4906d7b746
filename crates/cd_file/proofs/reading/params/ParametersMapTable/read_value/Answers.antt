-- Each key goes by its line.
use Rattle.std.proofs.Common.{arith}
use Rattle.cd_file.specs.MapReading.{line_of}
use Rattle.cd_file.specs.ReadHead as head
use Rattle.cd_file.proofs.LinesRead.{no_line, line_of_none, line_of_other}
use Rattle.cd_file.proofs.reading.params.ParametersMapTable.read_value.Goals as goal

pub returns-in-0 : goal.returns-in-0
unfolding line_of
returns-in-0 c = rw c.in-0.is (λ item end is. rw c.in-0.is at c.read_entries.ensures item end is)

pub returns-in-1 : goal.returns-in-1
unfolding line_of
returns-in-1 c = rw c.in-1.is (λ item end is. rw c.in-1.is at c.read_entries-in-1.ensures item end is)

pub returns-in_default : goal.returns-in_default
returns-in_default c =
    no_line head.parameters_table c.args.key c.args.fields.now c.args.depth c.args.bytes.now c.args.at c.passed_over.result (line_of_other _ _ c.args.key (λ e. omega arith) (line_of_other _ _ c.args.key (λ e. omega arith) (line_of_none c.args.key))) c.passed_over.ensures
