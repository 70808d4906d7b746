use Rattle.cd_packet.proofs.Walking.{ipv4_read}
use Rattle.cd_packet.proofs.ip_reading.ipv4_packet.Goals as goal

pub returns-clause-exact : goal.returns-clause-exact
returns-clause-exact c =
    ipv4_read c.args.at c.args.packet.now c.as_slice-bytes.result.now c.as_slice-bytes.ensures c.ipv4_header.result
    c.from-header.result c.from-total.result c.be16.result c.be16-2.result c.ipv4_header.ensures.exact
    c.in_ok-needs.ensures.there c.if-bytes-at-ne4.false c.from-header.ensures c.from-total.ensures c.be16.ensures
    c.if-header-lt-IPV4_HEADER.false c.if-total-header.false c.be16-2.ensures c.if-be16-ne0.false
