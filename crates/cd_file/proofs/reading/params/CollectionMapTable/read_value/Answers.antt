-- Each key goes by its line.
use Rattle.std.proofs.Common.{◌≡◌, Some, ap, arith}
use Rattle.cd_file.specs.Kinds.{unsigned}
use Rattle.cd_file.specs.MapReading.{line_of}
use Rattle.cd_file.specs.ReadHead as head
use Rattle.cd_file.proofs.LinesRead.{line_put, no_line, line_of_none, line_of_other}
use Rattle.cd_file.proofs.reading.params.CollectionMapTable.read_value.Goals as goal

pub returns-in-0 : goal.returns-in-0
unfolding line_of
returns-in-0 c =
    rw c.in-0.is
    (line_put unsigned 0 (λ v r. record r { query_ms = Some v }) c.args.fields.now _ (λ v. c.put_some.new.place ≡ Some v) c.args.depth c.args.bytes.now c.args.at
    (λ item v is e. ap (λ o. record c.args.fields.now { query_ms = o }) e) c.unsigned.result c.put_some.result (rw c.in-0.is at c.unsigned.ensures c.args.depth) c.put_some.ensures)

pub returns-in-1 : goal.returns-in-1
unfolding line_of
returns-in-1 c =
    rw c.in-1.is
    (line_put unsigned 1 (λ v r. record r { skew_us = Some v }) c.args.fields.now _ (λ v. c.put_some-in-1.new.place ≡ Some v) c.args.depth c.args.bytes.now c.args.at
    (λ item v is e. ap (λ o. record c.args.fields.now { skew_us = o }) e) c.unsigned-in-1.result c.put_some-in-1.result (rw c.in-1.is at c.unsigned-in-1.ensures c.args.depth) c.put_some-in-1.ensures)

pub returns-in_default : goal.returns-in_default
returns-in_default c =
    no_line head.collection_table c.args.key c.args.fields.now c.args.depth c.args.bytes.now c.args.at c.passed_over.result (line_of_other _ _ c.args.key (λ e. omega arith) (line_of_other _ _ c.args.key (λ e. omega arith) (line_of_none c.args.key))) c.passed_over.ensures
