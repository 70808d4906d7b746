-- Each key goes by its line.
use Rattle.std.proofs.Common.{◌≡◌, ap, arith}
use Rattle.std.proofs.Common.{refl}
use Rattle.cd_file.specs.Kinds.{unsigned, filled_array_of}
use Rattle.cd_file.specs.MapReading.{map_from}
use Rattle.cd_file.specs.MapReading.{line_of}
use Rattle.cd_file.specs.ReadHead as head
use Rattle.cd_file.proofs.LinesRead.{line_put, no_line, line_of_none, line_of_other}
use Rattle.cd_file.proofs.reading.params.PreambleMapTable.read_value.Goals as goal

pub returns-in-0 : goal.returns-in-0
unfolding line_of
returns-in-0 c =
    rw c.in-0.is
    (line_put unsigned 0 (λ v r. record r { major = v }) c.args.fields.now _ (λ v. c.put.new.place ≡ v) c.args.depth c.args.bytes.now c.args.at
    (λ item v is e. ap (λ o. record c.args.fields.now { major = o }) e) c.unsigned.result c.put.result (rw c.in-0.is at c.unsigned.ensures c.args.depth) c.put.ensures)

pub returns-in-1 : goal.returns-in-1
unfolding line_of
returns-in-1 c =
    rw c.in-1.is
    (line_put unsigned 1 (λ v r. r) c.args.fields.now _ (λ v. Unit {0}) c.args.depth c.args.bytes.now c.args.at
    (λ item v is e. refl) c.unsigned-in-1.result c.leave_out.result (rw c.in-1.is at c.unsigned-in-1.ensures c.args.depth) c.leave_out.ensures)

pub returns-in-2 : goal.returns-in-2
unfolding line_of
returns-in-2 c =
    rw c.in-2.is
    (line_put unsigned 2 (λ v r. r) c.args.fields.now _ (λ v. Unit {0}) c.args.depth c.args.bytes.now c.args.at
    (λ item v is e. refl) c.unsigned-in-2.result c.leave_out-in-2.result (rw c.in-2.is at c.unsigned-in-2.ensures c.args.depth) c.leave_out-in-2.ensures)

pub returns-in-3 : goal.returns-in-3
unfolding line_of
returns-in-3 c =
    rw c.in-3.is
    (line_put (filled_array_of (map_from head.parameters_table head.no_params)) 3 (λ v r. record r { entries = v }) c.args.fields.now _ (λ v. c.put-in-3.new.place ≡ v) c.args.depth c.args.bytes.now c.args.at
    (λ item v is e. ap (λ o. record c.args.fields.now { entries = o }) e) c.filled_array_of.result c.put-in-3.result (rw c.in-3.is at c.filled_array_of.ensures) c.put-in-3.ensures)

pub returns-in_default : goal.returns-in_default
returns-in_default c =
    no_line head.preamble_table c.args.key c.args.fields.now c.args.depth c.args.bytes.now c.args.at c.passed_over.result (line_of_other _ _ c.args.key (λ e. omega arith) (line_of_other _ _ c.args.key (λ e. omega arith) (line_of_other _ _ c.args.key (λ e. omega arith) (line_of_other _ _ c.args.key (λ e. omega arith) (line_of_none c.args.key))))) c.passed_over.ensures
