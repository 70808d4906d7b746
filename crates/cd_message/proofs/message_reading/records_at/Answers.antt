use Rattle.std.proofs.Common.{◌∙◌, refl}
use Rattle.cd_message.specs.Readings.{repeat}
use Rattle.cd_message.specs.Messages.{record_at, record_step}
use Rattle.cd_message.proofs.Repeats.{repeat_more, repeat_fault, repeat_end, fault_first}
use Rattle.cd_message.proofs.message_reading.records_at.Goals as goal

pub returns-in-Err-clause-read : goal.returns-in-Err-clause-read
returns-in-Err-clause-read c =
    let p = c.args.reader.now in
    let fault = rw c.records.invariant.same at c.in-Err.ensures.read in
    let step = fault_first c.in-Err.fault (record_at p c.records.allowed c.records.here) _ fault in
    let all = repeat (record_step p) c.args.count (c.args.at, c.args.opt_allowed) in
    fault_first c.in-Err.fault all _
    (repeat_fault c.in-Err.fault (record_step p) c.records.records.items c.args.count c.records.counter (c.records.here, c.records.allowed) all c.records-test.true step c.records.invariant.read)

pub records-preserved : goal.records-preserved
records-preserved c =
    let e = c.in-Ok-push.ensures.items in
    let p = c.args.reader.now in
    let all = repeat (record_step p) c.args.count (c.args.at, c.args.opt_allowed) in
    let is = rw c.records.invariant.same at c.in-Ok.ensures.read in
    let more = repeat_more (record_step p) c.records.records.items c.args.count c.records.counter (c.records.here, c.records.allowed) c.in-Ok.record (c.in-Ok.next, c.opt_allowed_after-allowed.result) all c.records-test.true (rw (is, c.opt_allowed_after-allowed.ensures) refl) c.records.invariant.read in
    record { same = c.in-Ok.ensures.same ∙ c.records.invariant.same; read = rw e more }

pub returns-clause-read : goal.returns-clause-read
returns-clause-read c =
    let p = c.args.reader.now in
    let all = repeat (record_step p) c.args.count (c.args.at, c.args.opt_allowed) in
    let last = repeat_end (record_step p) c.records.records.items c.args.count c.records.counter (c.records.here, c.records.allowed) all c.records-test.false c.records.invariant.read in
    rw (c.from_vec.ensures, last) refl
