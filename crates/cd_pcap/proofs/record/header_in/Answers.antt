use Rattle.std.proofs.Common.{◌∙◌, arith}
use Rattle.cd_pcap.proofs.Fronts.{open-header, refused-version}
use Rattle.cd_pcap.proofs.record.header_in.Goals as goal

pub returns-then-bytes-lt-HEADER : goal.returns-then-bytes-lt-HEADER
returns-then-bytes-lt-HEADER c =
    λ form. open-header form c.args.form c.args.bytes.now c.requires.told c.requires.magic (omega arith)

pub returns-then-number16_at-ne2 : goal.returns-then-number16_at-ne2
returns-then-number16_at-ne2 c =
    λ form. refused-version form c.args.form c.args.bytes.now c.requires.magic (omega arith)
    (λ two. c.if-number16_at-ne2.true (c.number16_at.ensures ∙ two))

pub returns : goal.returns
returns c = record { magic = c.requires.magic; long = omega arith; version = omega arith; type = cc }
