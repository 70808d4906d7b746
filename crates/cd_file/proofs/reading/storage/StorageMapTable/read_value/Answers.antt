-- Each key goes by its line.
use Rattle.std.proofs.Common.{◌≡◌, ◌<◌, Some, ap, arith}
use Rattle.std.specs.Prelude.{All, pos, slice_set}
use Rattle.cd_file.specs.Kinds.{unsigned, unsigned_below, array_of}
use Rattle.cd_file.specs.MapReading.{map_from}
use Rattle.cd_file.proofs.OpcodeBits.{opcodes_are_low}
use Rattle.cd_file.specs.MapReading.{line_of}
use Rattle.cd_file.specs.ReadHead as head
use Rattle.cd_file.proofs.LinesRead.{line_put, no_line, line_of_none, line_of_other}
use Rattle.cd_file.proofs.reading.storage.StorageMapTable.read_value.Goals as goal

pub returns-in-0 : goal.returns-in-0
unfolding line_of
returns-in-0 c =
    rw c.in-0.is
    (line_put unsigned 0 (λ v r. record r { ticks = v }) c.args.fields.now _ (λ v. c.put.new.place ≡ v) c.args.depth c.args.bytes.now c.args.at
    (λ item v is e. ap (λ o. record c.args.fields.now { ticks = o }) e) c.unsigned.result c.put.result (rw c.in-0.is at c.unsigned.ensures c.args.depth) c.put.ensures)

pub returns-in-1 : goal.returns-in-1
unfolding line_of
returns-in-1 c =
    rw c.in-1.is
    (line_put unsigned 1 (λ v r. record r { max_items = v }) c.args.fields.now _ (λ v. c.put-in-1.new.place ≡ v) c.args.depth c.args.bytes.now c.args.at
    (λ item v is e. ap (λ o. record c.args.fields.now { max_items = o }) e) c.unsigned-in-1.result c.put-in-1.result (rw c.in-1.is at c.unsigned-in-1.ensures c.args.depth) c.put-in-1.ensures)

pub returns-in-2 : goal.returns-in-2
unfolding line_of
returns-in-2 c =
    rw c.in-2.is
    (line_put (map_from head.hints_table head.no_hints) 2 (λ v r. record r { hints = v }) c.args.fields.now _ (λ v. c.put-in-2.new.place ≡ v) c.args.depth c.args.bytes.now c.args.at
    (λ item v is e. ap (λ o. record c.args.fields.now { hints = o }) e) c.map_of.result c.put-in-2.result (rw c.in-2.is at c.map_of.ensures) c.put-in-2.ensures)

pub returns-in-3 : goal.returns-in-3
unfolding line_of
returns-in-3 c =
    rw c.in-3.is
    (line_put (array_of (unsigned_below 16)) 3 (λ ns p. record p { opcodes = head.opcode_bits 0 ns }) c.args.fields.now _ (λ ns. All (λ n. n < 16) ns → c.put_opcodes.new.place ≡ head.opcode_bits 0 ns) c.args.depth c.args.bytes.now c.args.at
    (λ item ns is e. ap (λ o. record c.args.fields.now { opcodes = o }) (e (opcodes_are_low (pos 3) item ns is))) c.array_of.result c.put_opcodes.result (rw c.in-3.is at c.array_of.ensures) c.put_opcodes.ensures)

pub returns-in-4 : goal.returns-in-4
unfolding line_of
returns-in-4 c =
    rw c.in-4.is
    (line_put (array_of (unsigned_below 65536)) 4 (λ v r. record r { rr_types = v }) c.args.fields.now _ (λ v. c.put-in-4.new.place ≡ v) c.args.depth c.args.bytes.now c.args.at
    (λ item v is e. ap (λ o. record c.args.fields.now { rr_types = o }) e) c.array_of-in-4.result c.put-in-4.result (rw c.in-4.is at c.array_of-in-4.ensures) c.put-in-4.ensures)

pub returns-in-6 : goal.returns-in-6
unfolding line_of
returns-in-6 c =
    rw c.in-6.is
    (line_put (unsigned_below 256) 6 (head.with_prefix 0) c.args.fields.now _ (λ v. c.put_some.new.place ≡ Some v) c.args.depth c.args.bytes.now c.args.at
    (λ item v is e. ap (λ o. record c.args.fields.now { prefixes = slice_set c.args.fields.now.prefixes 0 o }) e) c.byte.result c.put_some.result (rw c.in-6.is at c.byte.ensures c.args.depth) c.put_some.ensures)

pub returns-in-7 : goal.returns-in-7
unfolding line_of
returns-in-7 c =
    rw c.in-7.is
    (line_put (unsigned_below 256) 7 (head.with_prefix 1) c.args.fields.now _ (λ v. c.put_some-in-7.new.place ≡ Some v) c.args.depth c.args.bytes.now c.args.at
    (λ item v is e. ap (λ o. record c.args.fields.now { prefixes = slice_set c.args.fields.now.prefixes 1 o }) e) c.byte-in-7.result c.put_some-in-7.result (rw c.in-7.is at c.byte-in-7.ensures c.args.depth) c.put_some-in-7.ensures)

pub returns-in-8 : goal.returns-in-8
unfolding line_of
returns-in-8 c =
    rw c.in-8.is
    (line_put (unsigned_below 256) 8 (head.with_prefix 2) c.args.fields.now _ (λ v. c.put_some-in-8.new.place ≡ Some v) c.args.depth c.args.bytes.now c.args.at
    (λ item v is e. ap (λ o. record c.args.fields.now { prefixes = slice_set c.args.fields.now.prefixes 2 o }) e) c.byte-in-8.result c.put_some-in-8.result (rw c.in-8.is at c.byte-in-8.ensures c.args.depth) c.put_some-in-8.ensures)

pub returns-in-9 : goal.returns-in-9
unfolding line_of
returns-in-9 c =
    rw c.in-9.is
    (line_put (unsigned_below 256) 9 (head.with_prefix 3) c.args.fields.now _ (λ v. c.put_some-in-9.new.place ≡ Some v) c.args.depth c.args.bytes.now c.args.at
    (λ item v is e. ap (λ o. record c.args.fields.now { prefixes = slice_set c.args.fields.now.prefixes 3 o }) e) c.byte-in-9.result c.put_some-in-9.result (rw c.in-9.is at c.byte-in-9.ensures c.args.depth) c.put_some-in-9.ensures)

pub returns-in_default : goal.returns-in_default
returns-in_default c =
    no_line head.storage_table c.args.key c.args.fields.now c.args.depth c.args.bytes.now c.args.at c.passed_over.result (line_of_other _ _ c.args.key (λ e. omega arith) (line_of_other _ _ c.args.key (λ e. omega arith) (line_of_other _ _ c.args.key (λ e. omega arith) (line_of_other _ _ c.args.key (λ e. omega arith) (line_of_other _ _ c.args.key (λ e. omega arith) (line_of_other _ _ c.args.key (λ e. omega arith) (line_of_other _ _ c.args.key (λ e. omega arith) (line_of_other _ _ c.args.key (λ e. omega arith) (line_of_other _ _ c.args.key (λ e. omega arith) (line_of_none c.args.key)))))))))) c.passed_over.ensures
