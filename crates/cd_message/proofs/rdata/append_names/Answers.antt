use Rattle.std.proofs.Common.{◌∙◌}
use Rattle.cd_message.specs.Readings.{with_front}
use Rattle.cd_message.specs.Messages.{rdata_names}
use Rattle.cd_message.proofs.Repeats.{names_more, names_fault, names_end}
use Rattle.cd_message.proofs.rdata.append_names.Goals as goal

pub returns-in-Err-clause-read : goal.returns-in-Err-clause-read
returns-in-Err-clause-read c =
    let p = c.args.reader.now in
    let all = with_front c.args.bytes.now.items (rdata_names p c.args.end c.args.count c.args.at) in
    let fault = rw c.names.invariant.same at c.in-Err.ensures.read in
    names_fault c.in-Err.fault p c.args.end c.names.bytes.items c.args.count c.names.counter c.names.here all c.names-test.true fault c.names.invariant.read

pub names-preserved : goal.names-preserved
names-preserved c =
    let p = c.args.reader.now in
    let all = with_front c.args.bytes.now.items (rdata_names p c.args.end c.args.count c.args.at) in
    let a = rw c.names.invariant.same at c.in-Ok.ensures.read in
    let more = names_more p c.args.end c.names.bytes.items c.args.count c.names.counter c.names.here a.0 c.in-Ok.next all c.names-test.true a.1 c.names.invariant.read in
    record { same = c.in-Ok.ensures.same ∙ c.names.invariant.same; read = rw a.2 more }

pub returns-clause-read : goal.returns-clause-read
returns-clause-read c =
    let p = c.args.reader.now in
    names_end p c.args.end c.names.bytes.items c.args.count c.names.counter c.names.here (with_front c.args.bytes.now.items (rdata_names p c.args.end c.args.count c.args.at)) c.names-test.false c.names.invariant.read
