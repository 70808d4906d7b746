use Rattle.std.proofs.Common.{arith}
use Rattle.cd_pcap.proofs.Fronts.{open-few, refused-magic}
use Rattle.cd_pcap.proofs.record.header_of.Goals as goal

pub returns-then-bytes-lt-MAGIC_SIZE : goal.returns-then-bytes-lt-MAGIC_SIZE
returns-then-bytes-lt-MAGIC_SIZE c = λ form. open-few form c.args.bytes.now (omega arith)

pub returns-in-None : goal.returns-in-None
returns-in-None c = λ form. refused-magic form c.args.bytes.now (omega arith) (cc)
