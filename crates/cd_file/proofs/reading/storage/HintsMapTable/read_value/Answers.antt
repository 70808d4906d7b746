-- Each key goes by its line.
use Rattle.std.proofs.Common.{◌≡◌, ◌%◌, ap, arith}
use Rattle.cd_file.specs.Kinds.{unsigned}
use Rattle.cd_file.specs.MapReading.{line_of}
use Rattle.cd_file.specs.ReadHead as head
use Rattle.cd_file.proofs.LinesRead.{line_put, no_line, line_of_none, line_of_other}
use Rattle.cd_file.proofs.reading.storage.HintsMapTable.read_value.Goals as goal

pub returns-in-0 : goal.returns-in-0
unfolding line_of
returns-in-0 c =
    rw c.in-0.is
    (line_put unsigned 0 (λ n h. record h { qr = n % 262144 }) c.args.fields.now _ (λ n. c.put_bits.new.place ≡ n % 262144) c.args.depth c.args.bytes.now c.args.at
    (λ item v is e. ap (λ o. record c.args.fields.now { qr = o }) e) c.unsigned.result c.put_bits.result (rw c.in-0.is at c.unsigned.ensures c.args.depth) c.put_bits.ensures)

pub returns-in-1 : goal.returns-in-1
unfolding line_of
returns-in-1 c =
    rw c.in-1.is
    (line_put unsigned 1 (λ n h. record h { sig = n % 131072 }) c.args.fields.now _ (λ n. c.put_bits-in-1.new.place ≡ n % 131072) c.args.depth c.args.bytes.now c.args.at
    (λ item v is e. ap (λ o. record c.args.fields.now { sig = o }) e) c.unsigned-in-1.result c.put_bits-in-1.result (rw c.in-1.is at c.unsigned-in-1.ensures c.args.depth) c.put_bits-in-1.ensures)

pub returns-in-2 : goal.returns-in-2
unfolding line_of
returns-in-2 c =
    rw c.in-2.is
    (line_put unsigned 2 (λ n h. record h { rr = n % 4 }) c.args.fields.now _ (λ n. c.put_two_bits.new.place ≡ n % 4) c.args.depth c.args.bytes.now c.args.at
    (λ item v is e. ap (λ o. record c.args.fields.now { rr = o }) e) c.unsigned-in-2.result c.put_two_bits.result (rw c.in-2.is at c.unsigned-in-2.ensures c.args.depth) c.put_two_bits.ensures)

pub returns-in-3 : goal.returns-in-3
unfolding line_of
returns-in-3 c =
    rw c.in-3.is
    (line_put unsigned 3 (λ n h. record h { other = n % 4 }) c.args.fields.now _ (λ n. c.put_two_bits-in-3.new.place ≡ n % 4) c.args.depth c.args.bytes.now c.args.at
    (λ item v is e. ap (λ o. record c.args.fields.now { other = o }) e) c.unsigned-in-3.result c.put_two_bits-in-3.result (rw c.in-3.is at c.unsigned-in-3.ensures c.args.depth) c.put_two_bits-in-3.ensures)

pub returns-in_default : goal.returns-in_default
returns-in_default c =
    no_line head.hints_table c.args.key c.args.fields.now c.args.depth c.args.bytes.now c.args.at c.passed_over.result (line_of_other _ _ c.args.key (λ e. omega arith) (line_of_other _ _ c.args.key (λ e. omega arith) (line_of_other _ _ c.args.key (λ e. omega arith) (line_of_other _ _ c.args.key (λ e. omega arith) (line_of_none c.args.key))))) c.passed_over.ensures
