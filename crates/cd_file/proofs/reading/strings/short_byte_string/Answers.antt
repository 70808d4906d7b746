-- A string that is read is short, or refused by its head or by its content.
use Rattle.std.proofs.Common.{◌≡◌, ◌<◌, ◌≤◌, length, true, sym, ◌∙◌}
use Rattle.std.specs.Prelude.{pos}
use Rattle.cd_file.specs.StringReading.{is_longer}
use Rattle.cd_file.proofs.StringsSeen.{string_seen, short_fault, short_long, short_fits, long_head}
use Rattle.cd_file.proofs.reading.strings.short_byte_string.Goals as goal

pub returns-then-is_longer : goal.returns-then-is_longer
returns-then-is_longer c = λ depth item end is.
    let long : is_longer c.head_at-head.result.argument c.args.most ≡ true = sym c.is_longer.ensures ∙ c.if-is_longer.true in
    rw c.shape.ensures
    (long_head (pos c.args.key) item end c.args.most c.head_at-head.result.next depth c.args.bytes.now c.head_at-head.result.kind c.head_at-head.result.argument long
    (c.head_at-head.ensures depth item end is))

pub returns-in-Err : goal.returns-in-Err
returns-in-Err c = λ depth item end is.
    let reads = string_seen (pos c.args.key) item end c.head_at-head.result.next depth c.args.bytes.now c.string_of.result c.head_at-head.result.kind c.head_at-head.result.argument
    (c.head_at-head.ensures depth item end is) c.string_of.ensures in
    short_fault (pos c.args.key) item end c.args.most c.in-Err.fault (rw c.in-Err.is at reads)

pub returns-then-as_slice-most : goal.returns-then-as_slice-most
returns-then-as_slice-most c = λ depth item end is.
    let reads = string_seen (pos c.args.key) item end c.head_at-head.result.next depth c.args.bytes.now c.string_of.result c.head_at-head.result.kind c.head_at-head.result.argument
    (c.head_at-head.ensures depth item end is) c.string_of.ensures in
    let long : c.args.most < length c.in-Ok.read.0 = rw c.as_slice.ensures at c.if-as_slice-most.true in
    rw c.shape-then-as_slice-most.ensures
    (short_long (pos c.args.key) item end c.args.most c.in-Ok.read.0 c.in-Ok.read.1 (rw c.in-Ok.is at reads) long)

pub returns : goal.returns
returns c = λ depth item end is.
    let reads = string_seen (pos c.args.key) item end c.head_at-head.result.next depth c.args.bytes.now c.string_of.result c.head_at-head.result.kind c.head_at-head.result.argument
    (c.head_at-head.ensures depth item end is) c.string_of.ensures in
    let fits : length c.in-Ok.read.0 ≤ c.args.most = rw c.as_slice.ensures at c.if-as_slice-most.false in
    short_fits (pos c.args.key) item end c.args.most c.in-Ok.read.0 c.in-Ok.read.1 (rw c.in-Ok.is at reads) fits
