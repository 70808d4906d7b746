-- Each key is read by its line.
use Rattle.std.proofs.Common.{◌≡◌, None, false, refl, rules, tests}
use Rattle.cd_file.specs.Kinds.{unsigned, unsigned_if_below}
use Rattle.cd_file.specs.MapReading.{line_of}
use Rattle.cd_file.specs.ReadTables.{signature_table}
use Rattle.cd_file.proofs.LinesRead.{no_line}
use Rattle.cd_file.proofs.FieldsPut.{puts, puts_some}
use Rattle.cd_file.proofs.reading.signatures.SignaturesTable.read_value.Goals as goal

pub returns-in-0 : goal.returns-in-0
unfolding line_of
returns-in-0 c =
    puts_some signature_table c.args.key c.args.depth c.args.at c.args.bytes.now c.args.sig.now c.put_some.result unsigned (λ n s. record s { server_address = n }) false (rw c.in-0.is refl)
    c.unsigned.result c.put_some.new.place (c.unsigned.ensures c.args.depth) c.put_some.ensures

pub returns-in-1 : goal.returns-in-1
unfolding line_of
returns-in-1 c =
    puts signature_table c.args.key c.args.depth c.args.at c.args.bytes.now c.args.sig.now c.put.result (unsigned_if_below 0x1_0000) (λ n s. record s { server_port = n }) false (rw c.in-1.is refl)
    c.word_or_none.result c.put.new.place (c.word_or_none.ensures c.args.depth) c.put.ensures

pub returns-in-2 : goal.returns-in-2
unfolding line_of
returns-in-2 c =
    puts signature_table c.args.key c.args.depth c.args.at c.args.bytes.now c.args.sig.now c.put-in-2.result (unsigned_if_below 0x100) (λ n s. record s { transport_flags = n }) false (rw c.in-2.is refl)
    c.byte_or_none.result c.put-in-2.new.place (c.byte_or_none.ensures c.args.depth) c.put-in-2.ensures

pub returns-in-4 : goal.returns-in-4
unfolding line_of
returns-in-4 c =
    puts signature_table c.args.key c.args.depth c.args.at c.args.bytes.now c.args.sig.now c.put-in-4.result (unsigned_if_below 0x100) (λ n s. record s { sig_flags = n }) false (rw c.in-4.is refl)
    c.byte_or_none-in-4.result c.put-in-4.new.place (c.byte_or_none-in-4.ensures c.args.depth) c.put-in-4.ensures

pub returns-in-5 : goal.returns-in-5
unfolding line_of
returns-in-5 c =
    puts signature_table c.args.key c.args.depth c.args.at c.args.bytes.now c.args.sig.now c.put-in-5.result (unsigned_if_below 16) (λ n s. record s { opcode = n }) false (rw c.in-5.is refl)
    c.byte_if_below.result c.put-in-5.new.place (c.byte_if_below.ensures c.args.depth) c.put-in-5.ensures

pub returns-in-6 : goal.returns-in-6
unfolding line_of
returns-in-6 c =
    puts signature_table c.args.key c.args.depth c.args.at c.args.bytes.now c.args.sig.now c.put-in-6.result (unsigned_if_below 0x1_0000) (λ n s. record s { dns_flags = n }) false (rw c.in-6.is refl)
    c.word_or_none-in-6.result c.put-in-6.new.place (c.word_or_none-in-6.ensures c.args.depth) c.put-in-6.ensures

pub returns-in-7 : goal.returns-in-7
unfolding line_of
returns-in-7 c =
    puts signature_table c.args.key c.args.depth c.args.at c.args.bytes.now c.args.sig.now c.put-in-7.result (unsigned_if_below 0x1000) (λ n s. record s { query_rcode = n }) false (rw c.in-7.is refl)
    c.word_if_below.result c.put-in-7.new.place (c.word_if_below.ensures c.args.depth) c.put-in-7.ensures

pub returns-in-8 : goal.returns-in-8
unfolding line_of
returns-in-8 c =
    puts_some signature_table c.args.key c.args.depth c.args.at c.args.bytes.now c.args.sig.now c.put_some-in-8.result unsigned (λ n s. record s { classtype = n }) false (rw c.in-8.is refl)
    c.unsigned-in-8.result c.put_some-in-8.new.place (c.unsigned-in-8.ensures c.args.depth) c.put_some-in-8.ensures

pub returns-in-9 : goal.returns-in-9
unfolding line_of
returns-in-9 c =
    puts signature_table c.args.key c.args.depth c.args.at c.args.bytes.now c.args.sig.now c.put-in-9.result (unsigned_if_below 0x1_0000) (λ n s. record s { qd = n }) false (rw c.in-9.is refl)
    c.word_or_none-in-9.result c.put-in-9.new.place (c.word_or_none-in-9.ensures c.args.depth) c.put-in-9.ensures

pub returns-in-10 : goal.returns-in-10
unfolding line_of
returns-in-10 c =
    puts signature_table c.args.key c.args.depth c.args.at c.args.bytes.now c.args.sig.now c.put-in-10.result (unsigned_if_below 0x1_0000) (λ n s. record s { an = n }) false (rw c.in-10.is refl)
    c.word_or_none-in-10.result c.put-in-10.new.place (c.word_or_none-in-10.ensures c.args.depth) c.put-in-10.ensures

pub returns-in-11 : goal.returns-in-11
unfolding line_of
returns-in-11 c =
    puts signature_table c.args.key c.args.depth c.args.at c.args.bytes.now c.args.sig.now c.put-in-11.result (unsigned_if_below 0x1_0000) (λ n s. record s { ns = n }) false (rw c.in-11.is refl)
    c.word_or_none-in-11.result c.put-in-11.new.place (c.word_or_none-in-11.ensures c.args.depth) c.put-in-11.ensures

pub returns-in-12 : goal.returns-in-12
unfolding line_of
returns-in-12 c =
    puts signature_table c.args.key c.args.depth c.args.at c.args.bytes.now c.args.sig.now c.put-in-12.result (unsigned_if_below 0x1_0000) (λ n s. record s { ar = n }) false (rw c.in-12.is refl)
    c.word_or_none-in-12.result c.put-in-12.new.place (c.word_or_none-in-12.ensures c.args.depth) c.put-in-12.ensures

pub returns-in-13 : goal.returns-in-13
unfolding line_of
returns-in-13 c =
    puts signature_table c.args.key c.args.depth c.args.at c.args.bytes.now c.args.sig.now c.put-in-13.result (unsigned_if_below 0x100) (λ n s. record s { edns_version = n }) false (rw c.in-13.is refl)
    c.byte_or_none-in-13.result c.put-in-13.new.place (c.byte_or_none-in-13.ensures c.args.depth) c.put-in-13.ensures

pub returns-in-14 : goal.returns-in-14
unfolding line_of
returns-in-14 c =
    puts signature_table c.args.key c.args.depth c.args.at c.args.bytes.now c.args.sig.now c.put-in-14.result (unsigned_if_below 0x1_0000) (λ n s. record s { udp_size = n }) false (rw c.in-14.is refl)
    c.word_or_none-in-14.result c.put-in-14.new.place (c.word_or_none-in-14.ensures c.args.depth) c.put-in-14.ensures

pub returns-in-15 : goal.returns-in-15
unfolding line_of
returns-in-15 c =
    puts_some signature_table c.args.key c.args.depth c.args.at c.args.bytes.now c.args.sig.now c.put_some-in-15.result unsigned (λ n s. record s { opt_rdata = n }) false (rw c.in-15.is refl)
    c.unsigned-in-15.result c.put_some-in-15.new.place (c.unsigned-in-15.ensures c.args.depth) c.put_some-in-15.ensures

pub returns-in-16 : goal.returns-in-16
unfolding line_of
returns-in-16 c =
    puts signature_table c.args.key c.args.depth c.args.at c.args.bytes.now c.args.sig.now c.put-in-16.result (unsigned_if_below 0x1000) (λ n s. record s { response_rcode = n }) false (rw c.in-16.is refl)
    c.word_if_below-in-16.result c.put-in-16.new.place (c.word_if_below-in-16.ensures c.args.depth) c.put-in-16.ensures

pub returns-in_default : goal.returns-in_default
unfolding line_of
returns-in_default c =
    let none : line_of signature_table c.args.key ≡ None = search (tests, rules) in
    no_line signature_table c.args.key c.args.sig.now c.args.depth c.args.bytes.now c.args.at c.passed_over.result none c.passed_over.ensures
