use Rattle.std.proofs.Common.{arith}
use Rattle.cd_pcap.proofs.Fronts.{open-short, open-cut, refused-record}
use Rattle.cd_pcap.proofs.record.front_of.Goals as goal

pub returns-then-bytes-lt-RECORD_HEADER : goal.returns-then-bytes-lt-RECORD_HEADER
returns-then-bytes-lt-RECORD_HEADER c = λ link. open-short c.args.form link c.args.at c.args.bytes.now (omega arith)

pub returns-then-size-gt-MOST_CAPTURED : goal.returns-then-size-gt-MOST_CAPTURED
returns-then-size-gt-MOST_CAPTURED c =
    λ link. refused-record c.args.form link c.args.at c.args.bytes.now (omega arith) (omega arith)

pub returns-then-bytes-size : goal.returns-then-bytes-size
returns-then-bytes-size c =
    λ link. open-cut c.args.form link c.args.at c.args.bytes.now (omega arith) (omega arith) (omega arith)
